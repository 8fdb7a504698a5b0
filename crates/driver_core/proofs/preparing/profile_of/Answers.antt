use Rattle.std.proofs.Common.{Ok, refl, sym, subst}
use Rattle.job_profile.specs.Named.{IsJobProfile}
use Rattle.job_profile.specs.declared.stops.ProfileStop.TheVariants as stop
use Rattle.job_words.proofs.NozzleLists.{nozzles_of_job}
use Rattle.driver_core.specs.Runs.Fitting.{IsRisingWay}
use Rattle.driver_core.proofs.Runs.Fitting.{rising_way}
use Rattle.driver_core.proofs.preparing.profile_of.Goals as goal

pub check_way-requires-clause-rising : goal.check_way-requires-clause-rising
check_way-requires-clause-rising g c =
    subst IsRisingWay (sym c.job_way.ensures) (rising_way c.args.job.now (nozzles_of_job c.args.words.now c.args.job.now c.requires).rising)

pub returns-in-Ok-clause-is : goal.returns-in-Ok-clause-is
returns-in-Ok-clause-is g c = record {
  named = Ok c.in_ok-profile.profile;
  named_is = subst (λ name. IsJobProfile (g.F.Shelf.files c.args.shelf.now) name (Ok c.in_ok-profile.profile)) c.profile_name.ensures
      c.in_ok-profile.ensures.found;
  fits = (refl, rw c.job_way.ensures at c.in-Ok.ensures.ok);
}

pub returns-in-Ok-clause-way : goal.returns-in-Ok-clause-way
returns-in-Ok-clause-way g c = rw c.job_way.ensures at c.in-Ok.ensures.ok

pub returns-in-Err-clause-lacks : goal.returns-in-Err-clause-lacks
returns-in-Err-clause-lacks g c = record {
  why = stop.Refused 0 c.in-Err.cause;
  stopped = record {
    named = Ok c.in_ok-profile.profile;
    named_is = subst (λ name. IsJobProfile (g.F.Shelf.files c.args.shelf.now) name (Ok c.in_ok-profile.profile)) c.profile_name.ensures
        c.in_ok-profile.ensures.found;
    fits = (refl, rw c.job_way.ensures at c.in-Err.ensures.err);
  };
  answered = refl;
}
