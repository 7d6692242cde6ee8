use Rattle.std.proofs.Common.{arith, sym, ◌∙◌}
use Rattle.msg_world.specs.{declared.part.Part.TheVariants.OfType, declared.part.Part.TheVariants.OfResource}
use Rattle.msg_system.proofs.AccessesUseNeeds.{uses_needs}
use Rattle.msg_system.proofs.job.fits_world.Goals as goal

pub returns : goal.returns
returns g c = record {
  fit = λ n needs.
      let used = uses_needs _ _ (c.job_access.ensures.needs n needs) in (
        λ is p needed. grind (arith, c.fits.ensures.fit.0 is, used p),
        λ all. c.fits.ensures.fit.1 (record {
          types_below = λ t is. all (OfType t) (sym (used (OfType t)) ∙ is);
          resources_below = λ r is. all (OfResource r) (sym (used (OfResource r)) ∙ is);
        }),
      );
}
