use Rattle.std.proofs.Common.{ℕ, ◌-◌, List, rules, take, arith, sym, length, length-take-le, subst}
use Rattle.std.proofs.lemmas.List.{with_items_is, places}
use Rattle.std.specs.Vec.{with_items}
use Rattle.std.specs.Io.KnownBytes.{Keeps}
use borrow.Rule.Slice.PartMut.{put_mid}
use Rattle.buffered_bytes.specs.Text.{text_behind}
use Rattle.buffered_bytes.proofs.Filling.{unread_after}
use Rattle.buffered_bytes.proofs.Texts.{text_grown}
use Rattle.buffered_bytes.proofs.unread.Unread.more.Goals as goal

pub returns-clause-grown : goal.returns-clause-grown
returns-clause-grown g c =
    let u = c.self.inside in
    let count = c.in_ok-count.count in
    let kept : ℕ = u.end - u.start in
    let filled : List ℕ = put_mid kept (length c.deref_mut.result.now - kept) c.deref_mut.result.now c.read.new.buf in
    record {
      chunk = take count c.read.new.buf;
      is = unread_after u.buffer.items c.copy_within.new.self.items c.deref_mut.result.now c.args.self.now c.read.new.buf
          (with_items c.copy_within.new.self filled).items u.start u.end count (length c.deref_mut.result.now - kept) c.self.view_is
          (omega (arith, c.self.invariant)) (omega (arith, c.self.invariant, u.buffer.ok)) c.copy_within.ensures.items
          c.deref_mut.ensures.value c.in_ok-count.ensures.bound.0
          (with_items_is c.copy_within.new.self filled (search (rules, places)));
      long = length-take-le count c.read.new.buf c.in_ok-count.ensures.bound.0;
    }

pub returns-clause-text : goal.returns-clause-text
returns-clause-text g c =
    let u = c.self.inside in
    let count = c.in_ok-count.count in
    let kept : ℕ = u.end - u.start in
    let filled : List ℕ = put_mid kept (length c.deref_mut.result.now - kept) c.deref_mut.result.now c.read.new.buf in
    let view = unread_after u.buffer.items c.copy_within.new.self.items c.deref_mut.result.now c.args.self.now c.read.new.buf
    (with_items c.copy_within.new.self filled).items u.start u.end count (length c.deref_mut.result.now - kept) c.self.view_is
    (omega (arith, c.self.invariant)) (omega (arith, c.self.invariant, u.buffer.ok)) c.copy_within.ensures.items c.deref_mut.ensures.value
    c.in_ok-count.ensures.bound.0
    (with_items_is c.copy_within.new.self filled (search (rules, places))) in
    let P : List ℕ → Type 0 = λ bytes. Keeps (text_behind c.args.self.now (g.S.Source.left c.args.source.now))
    (text_behind bytes (g.S.Source.left c.read.new.self)) in
    subst P (sym view) (text_grown (g.S.Source.left c.args.source.now) (g.S.Source.left c.read.new.self) c.args.self.now
    (take count c.read.new.buf) c.in_ok-count.ensures.bytes.0)
