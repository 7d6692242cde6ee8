use Rattle.std.proofs.Common.{refl}
use Rattle.msg_reading.proofs.scenario.Scenario.is_runnable.Goals as goal

pub returns : goal.returns
returns c =
    let systems = c.as_slice-systems.ensures.items in
    let rules = c.as_slice-rules.ensures.items in
    let small = c.if-not-is_small.ensures.small.0 refl in
    let acyclic = c.are_acyclic.ensures.acyclic in
    record {
      runnable = (
        λ yes. record {
          few_types = small.0;
          few_resources = small.1;
          few_systems = small.2;
          systems = c.if-not-are_runnable_systems.ensures.runnable.0 refl;
          rules_in_range = rw (systems, rules) at (c.if-not-name_systems_below.ensures.named.0 refl);
          acyclic = rw rules at (acyclic.0 yes);
          posts = c.if-not-all_posts_are_to_types.ensures.posts.0 refl;
        },
        λ runnable. acyclic.1 (rw rules runnable.acyclic),
      );
    }
