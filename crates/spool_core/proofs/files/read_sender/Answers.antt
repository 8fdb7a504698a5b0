use Rattle.std.proofs.Common.{◌≡◌, ◌+◌, ◌-◌, ◌++◌, ◌∷◌, [], rules, length, take, ℕ, arith, refl, sym, ap, subst, ◌∙◌, Option, List}
use Rattle.std.proofs.lemmas.Result.{err_from_is_err_and}
use Rattle.std.proofs.lemmas.Grind.{common_steps}
use Rattle.driver_core.specs.Outside.{texts_of}
use Rattle.spool_words.specs.Meaning.{names_from}
use Rattle.weave_base.specs.Shelf.{NamedText}
use Rattle.spool_core.specs.Files.{HasStreams, IsFile, bytes_in}
use Rattle.spool_core.proofs.Reading.{bytes_in_push, one_more, stops_at_name}
use Rattle.spool_core.proofs.files.read_sender.Goals as goal

pub returns-in_err-stream-clause-err : goal.returns-in_err-stream-clause-err
returns-in_err-stream-clause-err g c =
    let error = err_from_is_err_and c.from_residual.result c.from_residual.ensures.1 in
    rw (error.1, error.2)
    (stops_at_name (texts_of g.F.Shelf.files g.F.Shelf.faults c.args.shelf.now c.read_file.new.shelf)
    (texts_of g.F.Shelf.files g.F.Shelf.faults c.loop-i.shelf c.read_file.new.shelf)
    c.args.taken.now c.loop-i.taken (names_from c.args.words.now c.args.sender) c.loop-i.i (c.loop-i.i + 1 - 1) c.args.sender (c.loop-i.i + 1)
    c.loop-i.list.items c.name.result.now c.in_err-stream.field-0.0 c.loop-i.invariant.stay c.loop-i.invariant.later refl
    c.loop-i.invariant.streams c.loop-i.invariant.taken_is c.name.ensures (omega arith) refl c.in_err-stream.ensures.err)

pub loop-i-preserved : goal.loop-i-preserved
loop-i-preserved g c =
    let files = g.F.Shelf.files c.args.shelf.now in
    let file : IsFile files c.loop-i.taken c.name.result.now c.in_ok-stream.stream =
    subst (λ (told : Option (List NamedText)). IsFile told c.loop-i.taken c.name.result.now c.in_ok-stream.stream) c.loop-i.invariant.stay c.in_ok-stream.ensures.ok in
    let names = names_from c.args.words.now c.args.sender in
    let more = one_more files c.args.taken.now c.loop-i.taken names c.loop-i.i (c.loop-i.i + 1 - 1) c.loop-i.list.items c.name.result.now c.in_ok-stream.stream
    c.loop-i.invariant.streams c.loop-i.invariant.taken_is c.name.ensures (omega arith) file in
    let items : c.push.new.self.items ≡ c.loop-i.list.items ++ c.in_ok-stream.stream ∷ [] = first_of (search rules, grind (arith, common_steps)) in
    let len : length c.as_slice.result.now ≡ length c.in_ok-stream.stream = ap length c.as_slice.ensures in
    let sum : bytes_in c.push.new.self.items ≡ bytes_in c.loop-i.list.items + length c.in_ok-stream.stream =
    ap bytes_in items ∙ bytes_in_push c.loop-i.list.items c.in_ok-stream.stream in
    let within = file.within in
    record {
      streams = subst (λ (l : List (List ℕ)). HasStreams files c.args.taken.now (take (c.loop-i.i + 1) names) l) (sym items) more;
      taken_is = omega (arith, c.loop-i.invariant.taken_is);
      most = omega (arith, c.loop-i.invariant.most);
      later = omega (arith, c.loop-i.invariant.later, c.read_file.ensures.later);
      stay = c.read_file.ensures.stay ∙ c.loop-i.invariant.stay;
    }
