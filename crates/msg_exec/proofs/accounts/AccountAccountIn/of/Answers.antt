use Rattle.std.proofs.Common.{arith, ◌<◌, ◌^◌}
use Rattle.std.proofs.lemmas.Bool.{false≢true}
use Rattle.msg_buffer.specs.Prelude.{count}
use Rattle.msg_world.specs.{declared.part.Part.TheVariants.OfType}
use Rattle.msg_exec.proofs.AccountsTell.{adds_up}
use Rattle.msg_exec.proofs.accounts.AccountAccountIn.of.Goals as goal

pub returns : goal.returns
returns g c = record {
  told = λ s stands lt needs is.
      let t = c.args.of_type in
      let lender = stands.lender in
      let within = stands.sound.places c.args.system t lt in
      -- a place is no further than the count, which is a `u64`
      let home = lender.whole (OfType t) (omega (arith, lt, lender.types)) in
      let few : count (s.world.histories t) < 2 ^ 64 =
      grind (arith, c.count_is_known.ensures.known, false≢true, home, lender.world (OfType t)) in
      let sum = adds_up s c.args.system t lt stands.sound in
      let reads = needs.reads (OfType t) in
      grind arith;
}
