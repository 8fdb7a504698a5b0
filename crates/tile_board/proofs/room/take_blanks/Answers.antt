use Rattle.std.proofs.Common.{ℕ, ◌+◌, ◌*◌, [], ◌∷◌, replicate, ◌∙◌, ap, sym}
use Rattle.board_steps.specs.declared.rule.Cell.TheVariants.{Empty}
use Rattle.board_steps.specs.declared.rule.Slab.{Slab}
use Rattle.board_steps.specs.Rule.{setting_of}
use Rattle.tile_board.specs.Room.{comes}
use Rattle.tile_board.specs.Slabs.{amounts_of}
use Rattle.tile_board.proofs.Hands.{any-front, dots_in, out-is, regroup}
use Rattle.tile_board.proofs.room.take_blanks.Goals as goal

pub take_out-right-requires-clause-front : goal.take_out-right-requires-clause-front
take_out-right-requires-clause-front c =
    any-front ((setting_of c.args.words.now.key).fresh c.args.tile 0) _ _ _ _ c.slot_of.ensures c.requires.hand

pub take_out-bottom-requires-clause-front : goal.take_out-bottom-requires-clause-front
take_out-bottom-requires-clause-front c =
    let fresh = (setting_of c.args.words.now.key).fresh c.args.tile in
    let o0 = out-is (fresh 0) _ _ (4 * c.args.tile + 0) _ _ _ c.slot_of.ensures c.requires.hand c.take_out-right.ensures.taken in
    any-front (fresh 1) _ _ _ _ c.slot_of-2.ensures o0.hand

pub take_out-corner-requires-clause-front : goal.take_out-corner-requires-clause-front
take_out-corner-requires-clause-front c =
    let fresh = (setting_of c.args.words.now.key).fresh c.args.tile in
    let o0 = out-is (fresh 0) _ _ (4 * c.args.tile + 0) _ _ _ c.slot_of.ensures c.requires.hand c.take_out-right.ensures.taken in
    let o1 = out-is (fresh 1) _ _ (4 * c.args.tile + 1) _ _ _ c.slot_of-2.ensures o0.hand c.take_out-bottom.ensures.taken in
    any-front (fresh 2) _ _ _ _ c.slot_of-3.ensures o1.hand

pub take_out-requires-clause-front : goal.take_out-requires-clause-front
take_out-requires-clause-front c =
    let fresh = (setting_of c.args.words.now.key).fresh c.args.tile in
    let o0 = out-is (fresh 0) _ _ (4 * c.args.tile + 0) _ _ _ c.slot_of.ensures c.requires.hand c.take_out-right.ensures.taken in
    let o1 = out-is (fresh 1) _ _ (4 * c.args.tile + 1) _ _ _ c.slot_of-2.ensures o0.hand c.take_out-bottom.ensures.taken in
    let o2 = out-is (fresh 2) _ _ (4 * c.args.tile + 2) _ _ _ c.slot_of-3.ensures o1.hand c.take_out-corner.ensures.taken in
    any-front (fresh 3) _ _ _ _ c.slot_of-4.ensures o2.hand

pub dots_of-dots-requires : goal.dots_of-dots-requires
dots_of-dots-requires c =
    let fresh = (setting_of c.args.words.now.key).fresh c.args.tile in
    let o0 = out-is (fresh 0) _ _ (4 * c.args.tile + 0) _ _ _ c.slot_of.ensures c.requires.hand c.take_out-right.ensures.taken in
    let o1 = out-is (fresh 1) _ _ (4 * c.args.tile + 1) _ _ _ c.slot_of-2.ensures o0.hand c.take_out-bottom.ensures.taken in
    let o2 = out-is (fresh 2) _ _ (4 * c.args.tile + 2) _ _ _ c.slot_of-3.ensures o1.hand c.take_out-corner.ensures.taken in
    let o3 = out-is (fresh 3) _ _ (4 * c.args.tile + 3) _ _ _ c.slot_of-4.ensures o2.hand c.take_out.ensures.taken in
    (replicate (amounts_of c.args.words.now.key).inks (replicate {A = ℕ} 256 0), o3.same)

pub returns-clause-blanks : goal.returns-clause-blanks
returns-clause-blanks c =
    let fresh = (setting_of c.args.words.now.key).fresh c.args.tile in
    let o0 = out-is (fresh 0) _ _ (4 * c.args.tile + 0) _ _ _ c.slot_of.ensures c.requires.hand c.take_out-right.ensures.taken in
    let o1 = out-is (fresh 1) _ _ (4 * c.args.tile + 1) _ _ _ c.slot_of-2.ensures o0.hand c.take_out-bottom.ensures.taken in
    let o2 = out-is (fresh 2) _ _ (4 * c.args.tile + 2) _ _ _ c.slot_of-3.ensures o1.hand c.take_out-corner.ensures.taken in
    let o3 = out-is (fresh 3) _ _ (4 * c.args.tile + 3) _ _ _ c.slot_of-4.ensures o2.hand c.take_out.ensures.taken in
    record { right = o0.same; bottom = o1.same; corner = o2.same; dots = ap dots_in (sym c.dots_of-dots.ensures ∙ o3.same) }

pub returns-clause-hand : goal.returns-clause-hand
returns-clause-hand c =
    let b : Slab = c.args.words.now.key in
    let t : ℕ = c.args.tile in
    let fresh = (setting_of b).fresh t in
    let o0 = out-is (fresh 0) _ _ (4 * t + 0) _ _ _ c.slot_of.ensures c.requires.hand c.take_out-right.ensures.taken in
    let o1 = out-is (fresh 1) _ _ (4 * t + 1) _ _ _ c.slot_of-2.ensures o0.hand c.take_out-bottom.ensures.taken in
    let o2 = out-is (fresh 2) _ _ (4 * t + 2) _ _ _ c.slot_of-3.ensures o1.hand c.take_out-corner.ensures.taken in
    let o3 = out-is (fresh 3) _ _ (4 * t + 3) _ _ _ c.slot_of-4.ensures o2.hand c.take_out.ensures.taken in
    record {
      view = o3.view ∙ o2.view ∙ o1.view ∙ o0.view;
      hand = o3.hand
          ∙ regroup (comes b (setting_of b).content 0 t) (comes b (setting_of b).content 1 t) (comes b (setting_of b).content 2 t)
          ((4 * t + 0, Empty) ∷ []) ((4 * t + 1, Empty) ∷ []) ((4 * t + 2, Empty) ∷ []) ((4 * t + 3, Empty) ∷ []);
    }
