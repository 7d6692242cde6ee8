-- An access uses what is needed.
use Rattle.std.proofs.Common.{◌≡◌, ◌||◌, ◌↔◌}
use Rattle.msg_world.specs.{Prelude.IsClash, declared.part.Part.Part, Prelude.uses, declared.access.Access.Access}
use Rattle.msg_system.specs.Prelude.{HasClash, IsAccessOf, Needs, needs_any}

-- it uses what is needed, and nothing else
pub uses_needs : (n : Needs) (a : Access) → IsAccessOf n a → (p : Part) → uses a p ≡ needs_any n p
uses_needs n a of p k = of.reads p k || of.writes p k

-- it clashes if the needs do
pub same_clash : (n : Needs) (a : Access) → IsAccessOf n a → IsClash a ↔ HasClash n
same_clash n a of =
    (λ c. (c.0, rw (← of.reads c.0, ← of.writes c.0) c.1), λ c. (c.0, rw (of.reads c.0, of.writes c.0) c.1))
