-- An engine that stands for a state has a core that does. A run and one frame after it are a run.
use Rattle.std.proofs.Common.{◌≡◌, ◌<◌, ◌↔◌, All, ap, is_some, Some, sym, ◌∙◌, inl, inr, IsSome}
use Rattle.std.proofs.lemmas.Bool.{false≢true}
use Rattle.msg_system.specs.Prelude.{Meaning}
use Rattle.msg_exec.specs.Prelude.{Core, CoreStands, EngineOf, IsEngine, IsSpoiled, PostsFit, EngineStands, frame_count, frame_number}
use Rattle.msg_frames.specs.{declared.frame.Frame.Frame}
use Rattle.msg_frames.specs.Prelude.{AreAccessesOf, IsSoundState, State}
use Rattle.msg_exec.proofs.ItemsOfLists.{some_of}
use Rattle.msg_world.specs.Prelude.{Values}

module _ {S V : Type 0} {values : Values V} (meaning : S → Meaning V) where
  -- an engine that stands for a state has a core, which stands for it
  pub core_of : (e : EngineOf S V) (s : State values) → EngineStands meaning e s → (c : Core S V)
      × ((e.core ≡ Some c) × CoreStands meaning c s)
  core_of e s stands = some_of e.core stands.core

  -- it has counted the frames of the state
  pub has_counted : (e : EngineOf S V) (s : State values) → EngineStands meaning e s → frame_number e ≡ frame_count s
  has_counted e s stands = stands.frames

  -- and the state is sound
  pub is_sound : (e : EngineOf S V) (s : State values) → EngineStands meaning e s → IsSoundState s
  is_sound e s stands = (core_of e s stands).1.1.sound

  -- its accesses are those of the systems
  pub accesses_of : {c : Core S V} {s : State values} → CoreStands meaning c s → AreAccessesOf s c.lender.accesses.items
  accesses_of core = record { each = core.lender.accesses; of_needs = λ i lt. (core.lender.members i lt).access }

  -- it wasn't spoiled, so it stood for a state
  pub stood : (e : EngineOf S V) → IsSome e.core → IsEngine values meaning e → (s : State values) × EngineStands meaning e s
  stood e some (inl spoiled) = absurd (false≢true (sym spoiled ∙ some))
  stood e some (inr stands) = stands

  -- and so does its core
  pub its_core : (e : EngineOf S V) (core : Core S V) → e.core ≡ Some core → IsEngine values meaning e
      → (s : State values) × (CoreStands meaning core s × (frame_number e ≡ frame_count s))
  its_core e core is (inl spoiled) = absurd (false≢true (sym spoiled ∙ ap is_some is))
  its_core e core is (inr stands) = (stands.0, (rw is at stands.1.core, stands.1.frames))

  -- so it isn't spoiled
  pub is_alive : (e : EngineOf S V) (s : State values) → EngineStands meaning e s → ¬ IsSpoiled e
  is_alive e s stands spoiled =
      let core = core_of e s stands in absurd (false≢true (sym spoiled ∙ ap is_some core.1.0))

  -- and posts fit if they are to types of the state
  pub takes_posts : (e : EngineOf S V) (s : State values) → EngineStands meaning e s → (f : Frame V)
      → PostsFit e f ↔ All (λ p. p.0 < s.types) f.posts
  takes_posts e s stands f =
      let core = core_of e s stands in rw (core.1.0, core.1.1.lender.types) ((λ h. h), (λ h. h))

  -- what fitted fits an engine of as many types
  pub still_fit : (e o : EngineOf S V) (s u : State values) → EngineStands meaning e s → EngineStands meaning o u
      → u.types ≡ s.types → (f : Frame V) → PostsFit e f → PostsFit o f
  still_fit e o s u one other same f fit =
      (takes_posts o u other f).1 (rw same ((takes_posts e s one f).0 fit))
