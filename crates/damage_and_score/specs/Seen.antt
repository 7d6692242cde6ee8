-- What a read comes to.
use Rattle.std.specs.Prelude.{◌≡◌, ℕ, ◌+◌, List, length, sum_by}
use Rattle.msg_buffer.specs.declared.instance.Instance.{Instance}
use Rattle.msg_buffer.specs.Prelude.{History, missed, unread}
use Rattle.damage_and_score.specs.{declared.damage.Damage.Damage, declared.damage.Hero.Hero, declared.damage.Hero.TheVariants.Archer, declared.damage.Hero.TheVariants.Mage, declared.sight.Sight.Sight}

-- the points of a hit, if this hero dealt it
abbrev pub points_by : Hero → Hero → ℕ → ℕ
points_by Archer Archer points = points
points_by Archer Mage points = 0
points_by Mage Archer points = 0
points_by Mage Mage points = points

-- all points that a hero dealt by these hits
abbrev pub points_of : Hero → List (Instance Damage) → ℕ
points_of hero hits = sum_by (λ x. points_by hero x.message.by x.message.points) hits

-- A read over this history, from this place to the next one, came to this.
pub record HasSeen (h : History Damage) (place : ℕ) (sight : Sight) (next : ℕ) : Type 0 where
  pub missed : sight.missed ≡ missed h place
  pub hits : sight.hits ≡ length (unread h place)
  pub archer : sight.archer ≡ points_of Archer (unread h place)
  pub mage : sight.mage ≡ points_of Mage (unread h place)
  -- what it went past is what it missed and what it read
  pub past : next ≡ place + sight.missed + sight.hits
