-- Hands on the definitions cited elsewhere. The declared types serve this crate's proofs alone.
pub use Rattle.msg_world.specs.Access.{Conflict, FitsWorldOf, HasPart, IsClash, Overlap, WritesTypeOrResource, has_bit, no_access, reads, same_part, uses, writes}
pub use Rattle.msg_world.specs.WritingThrough.{with_value}
pub use Rattle.msg_world.specs.Loan.{IsComplete, IsLoanOf, LoanStands, SameLoan, access_of_loan, shown, taken_of, with_messages, with_resource, writable}
pub use Rattle.msg_world.specs.LoanLaws.{HomeAgain, HomeMerges, HomeWhereEither, LentIsLoan, LoanEnds, LoanStays, MayComeHome, OthersStayHome, OwnedStands, OwnsWhatItWrites, StaysApart, StaysComplete, ValuesStand, WritesStand}
pub use Rattle.msg_world.specs.Parts.{Has, IsApart, IsHome, IsWhole, LendsOut, Parts, PartsStand, SameShape, SameSize, Stuff, StuffStands, TakesBack, slot}
pub use Rattle.msg_world.specs.World.{Values, WorldState, after_signal, after_update, by, content, held_world, i64_values, merge, new_world, signalled_marks, waits, with_history, with_value_of}
pub use Rattle.msg_world.specs.declared.access.Access.{Access}
pub use Rattle.msg_world.specs.declared.part.Part.{Part}
pub use Rattle.msg_world.specs.declared.part.Part.TheVariants.{OfResource, OfType, Registry}
pub use Rattle.msg_world.specs.declared.lent.Lent.{Lent}
pub use Rattle.msg_world.specs.declared.marks.Marks.{Marks}
pub use Rattle.msg_world.specs.declared.record.Record.{Record}
pub use Rattle.msg_world.specs.declared.record.TheConstants.{HOST}
