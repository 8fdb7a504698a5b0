use Rattle.std.proofs.Common.{[], Ok, List, ℕ, Option, arith, refl, sym, subst, map}
use Rattle.std.proofs.lemmas.Result.{err_from_is_err_and}
use Rattle.driver_core.specs.Outside.{texts_of}
use Rattle.job_profile.specs.Named.{IsJobProfile}
use Rattle.spool_words.specs.Meaning.{names_of}
use Rattle.spool_words.proofs.Accepted.{within_bounds}
use Rattle.weave_base.specs.Shelf.{NamedText}
use Rattle.spool_core.specs.Files.{AreFiles}
use Rattle.spool_core.proofs.Reading.{later_files}
use Rattle.spool_core.proofs.Runs.{are_few, no_files, no_profile}
use Rattle.spool_core.proofs.preparing.prepare.Goals as goal

pub returns-in_err-profile-clause-answered : goal.returns-in_err-profile-clause-answered
returns-in_err-profile-clause-answered g c =
    let error = err_from_is_err_and c.from_residual-in_err-profile.result c.from_residual-in_err-profile.ensures.1 in
    rw (error.1, error.2)
    (λ out meters none. no_profile c.args.words.now c.in_ok-request.request
    (record { shelf = texts_of g.F.Shelf.files g.F.Shelf.faults c.args.shelf.now c.find_profile.new.shelf; out = out; meters = meters })
    [] c.profile_name.result.now c.in_err-profile.field-0.0 c.in_ok-request.ensures c.profile_name.ensures
    c.in_err-profile.ensures.refused c.in_err-profile.ensures.failed c.in_err-profile.ensures.unasked c.in_err-profile.ensures.no_memory none)

pub returns-in_err-lists-clause-answered : goal.returns-in_err-lists-clause-answered
returns-in_err-lists-clause-answered g c =
    let error = err_from_is_err_and c.from_residual-in_err-lists.result c.from_residual-in_err-lists.ensures.1 in
    rw (error.1, error.2)
    (λ out meters none. no_files c.args.words.now c.in_ok-request.request
    (record { shelf = texts_of g.F.Shelf.files g.F.Shelf.faults c.args.shelf.now c.read_files.new.shelf; out = out; meters = meters })
    [] c.in_ok-profile.profile c.in_err-lists.field-0.0 c.in_ok-request.ensures
    (subst (λ (name : List ℕ). IsJobProfile (g.F.Shelf.files c.args.shelf.now) name (Ok c.in_ok-profile.profile)) c.profile_name.ensures c.in_ok-profile.ensures.found)
    (later_files (names_of c.args.words.now) (texts_of g.F.Shelf.files g.F.Shelf.faults c.args.shelf.now c.read_files.new.shelf)
    (texts_of g.F.Shelf.files g.F.Shelf.faults c.find_profile.new.shelf c.read_files.new.shelf) c.in_err-lists.field-0.0
    c.find_profile.ensures.stay c.find_profile.ensures.later refl c.in_err-lists.ensures.err) none)

pub returns-clause-prepared : goal.returns-clause-prepared
returns-clause-prepared g c =
    let told = g.F.Shelf.files c.args.shelf.now in
    let within = within_bounds c.args.words.now c.in_ok-request.request (sym c.in_ok-request.ensures) in
    let some = within.some_workers in
    let most = within.most_workers in
    let files : AreFiles told (names_of c.args.words.now) (map (λ list. list.items) c.in_ok-lists.lists.items) =
    subst (λ (t : Option (List NamedText)). AreFiles t (names_of c.args.words.now) (map (λ list. list.items) c.in_ok-lists.lists.items)) c.find_profile.ensures.stay c.in_ok-lists.ensures.ok in
    record {
      request = c.in_ok-request.request;
      means = sym c.in_ok-request.ensures;
      screening_is = refl;
      workers_is = refl;
      profile_is = subst (λ (name : List ℕ). IsJobProfile told name (Ok c.in_ok-profile.profile)) c.profile_name.ensures c.in_ok-profile.ensures.found;
      files = files;
      can = record {
        can = record {
          checked = c.in_ok-profile.ensures.checked;
          some_workers = omega arith;
          most_workers = omega arith;
          way = tt;
        };
        way_is = refl;
      };
      few = are_few c.args.words.now (map (λ list. list.items) c.in_ok-lists.lists.items) c.in_ok-request.request files.senders within;
    }
