use Rattle.std.proofs.Common.{◌≡◌, ◌+◌, ◌-◌, ◌++◌, ◌∷◌, [], rules, get_or, ℕ, arith, refl, sym, ap, subst, ◌∙◌, map, Option, List}
use Rattle.std.proofs.lemmas.Result.{err_from_is_err_and}
use Rattle.std.proofs.lemmas.Grind.{common_steps}
use Rattle.std.proofs.lemmas.List.{map_push}
use Rattle.driver_core.specs.Outside.{texts_of}
use Rattle.spool_words.specs.Meaning.{names_of}
use Rattle.weave_base.specs.Shelf.{NamedText}
use Rattle.spool_core.specs.Files.{HasStreams}
use Rattle.spool_words.proofs.Accepted.{within_bounds}
use Rattle.spool_core.proofs.Reading.{ReadSoFar, all_read, one_sender_more, stops_at_sender}
use Rattle.spool_core.proofs.files.read_files.Goals as goal

pub returns-in_err-list-clause-err : goal.returns-in_err-list-clause-err
returns-in_err-list-clause-err g c =
    let error = err_from_is_err_and c.from_residual.result c.from_residual.ensures.1 in
    let within = within_bounds c.args.words.now c.args.request.now c.requires in
    let count = within.senders in
    rw (error.1, error.2)
    (stops_at_sender (texts_of g.F.Shelf.files g.F.Shelf.faults c.args.shelf.now c.read_sender.new.shelf)
    (texts_of g.F.Shelf.files g.F.Shelf.faults c.loop-i.shelf c.read_sender.new.shelf)
    (names_of c.args.words.now) (map (λ list. list.items) c.loop-i.lists.items) c.loop-i.i (c.loop-i.i + 1 - 1) c.loop-i.taken (c.loop-i.i + 1)
    c.in_err-list.field-0.0 c.loop-i.invariant.stay c.loop-i.invariant.later refl (omega arith) (omega arith) refl
    c.loop-i.invariant.read c.in_err-list.ensures.err)

pub loop-i-preserved : goal.loop-i-preserved
loop-i-preserved g c =
    let within = within_bounds c.args.words.now c.args.request.now c.requires in
    let count = within.senders in
    let files = g.F.Shelf.files c.args.shelf.now in
    let names = names_of c.args.words.now in
    let lists = map (λ list. list.items) c.loop-i.lists.items in
    let items : c.push.new.self.items ≡ c.loop-i.lists.items ++ c.in_ok-list.list ∷ [] = first_of (search rules, grind (arith, common_steps)) in
    let all : map (λ list. list.items) c.push.new.self.items ≡ lists ++ c.in_ok-list.list.items ∷ [] =
    ap (map (λ list. list.items)) items ∙ map_push (λ list. list.items) c.loop-i.lists.items c.in_ok-list.list in
    let has : HasStreams files c.loop-i.taken (get_or names (c.loop-i.i + 1 - 1) []) c.in_ok-list.list.items =
    subst (λ (told : Option (List NamedText)). HasStreams told c.loop-i.taken (get_or names (c.loop-i.i + 1 - 1) []) c.in_ok-list.list.items) c.loop-i.invariant.stay c.in_ok-list.ensures.ok in
    record {
      read = subst (λ (ls : List (List (List ℕ))). ReadSoFar files names ls (c.loop-i.i + 1) c.read_sender.new.taken) (sym all)
          (one_sender_more files names lists c.in_ok-list.list.items c.loop-i.i (c.loop-i.i + 1 - 1) c.loop-i.taken c.read_sender.new.taken
          (omega arith) (omega arith) c.loop-i.invariant.read has c.in_ok-list.ensures.taken);
      most = c.read_sender.ensures.most;
      later = omega (arith, c.loop-i.invariant.later, c.read_sender.ensures.later);
      stay = c.read_sender.ensures.stay ∙ c.loop-i.invariant.stay;
    }

pub returns-clause-ok : goal.returns-clause-ok
returns-clause-ok g c =
    let within = within_bounds c.args.words.now c.args.request.now c.requires in
    let count = within.senders in
    all_read (g.F.Shelf.files c.args.shelf.now) (names_of c.args.words.now) (map (λ list. list.items) c.loop-i.lists.items) c.loop-i.i c.loop-i.taken
    (omega arith) c.loop-i.invariant.read
