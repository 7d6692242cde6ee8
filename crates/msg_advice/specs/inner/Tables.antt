-- What the private functions that make a plan have of it. No public contract cites these.
use Rattle.std.specs.Prelude.{List}
use Rattle.std.specs.List.{AllZip}
use Rattle.msg_world.specs.declared.access.Access.{Access}
use Rattle.msg_system.specs.Prelude.{IsAccessOf, Needs, job_needs}
use Rattle.msg_reading.specs.declared.scenario.SystemSpec.{SystemSpec}

-- what a system reads and writes, as its spec has it
abbrev pub spec_needs : SystemSpec → Needs
spec_needs x = job_needs x.program.ops x.place.conditions

-- these are the accesses of the systems, one each
abbrev pub AreAccesses : List SystemSpec → List Access → Type 0
AreAccesses systems accesses = AllZip (λ x a. IsAccessOf (spec_needs x) a) systems accesses
