-- Hands on the definitions cited elsewhere. The declared types serve this crate's proofs alone.
pub use Rattle.damage_and_score.specs.Seen.{HasSeen, points_of}
pub use Rattle.damage_and_score.specs.declared.damage.Damage.{Damage}
pub use Rattle.damage_and_score.specs.declared.damage.Hero.TheVariants.{Archer, Mage}
