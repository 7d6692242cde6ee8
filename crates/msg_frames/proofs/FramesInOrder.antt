-- A frame whose turns are taken in an order: its log has them in that order.
use Rattle.std.proofs.Common.{List, [], ap, arith, map, refl, ℕ, ◌∙◌, ◌∷◌, ◌≡◌}
use Rattle.msg_world.specs.Prelude.{Values, after_update}
use Rattle.msg_system.specs.declared.reply.Reply.{Reply}
use Rattle.msg_frames.specs.Prelude.{Frame, Log, State, Turn, after_turn_of, after_turns_of, before_turns, frame_in, post_replies, turn_order_in}

module _ {V : Type 0} {values : Values V} where
  systems_logged : (order : List ℕ) (s : State values) → map (λ (t : Turn V). t.system) (after_turns_of order s).turns ≡ order
  systems_logged [] s = refl
  systems_logged (i ∷ is) s = ap (λ rest. i ∷ rest) (systems_logged is (after_turn_of i s))

  -- the log of a frame in an order: the answers to its posts, and the turns
  pub logged_in : (frame : Frame V) (order : List ℕ) (s : State values) (log : Log V) (replies : List (Reply V)) → log.posts ≡ replies
      → replies ≡ post_replies frame.posts (after_update s.world)
      → log.turns ≡ (after_turns_of order (before_turns frame.posts s)).turns → log ≡ (frame_in order frame s).log
  logged_in frame order s log replies has answered turns = grind arith

  -- the log has them in that order
  pub in_that_order : (frame : Frame V) (order : List ℕ) (s : State values) (log : Log V) → log ≡ (frame_in order frame s).log
      → turn_order_in log ≡ order
  in_that_order frame order s log told = ap turn_order_in told ∙ systems_logged order (before_turns frame.posts s)
