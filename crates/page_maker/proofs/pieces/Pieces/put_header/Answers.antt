use Rattle.std.proofs.Common.{◌≡◌, ◌++◌, rules}
use Rattle.page_maker.proofs.Making.{header_put}
use Rattle.page_maker.proofs.pieces.Pieces.put_header.Goals as goal

pub returns-clause-ok : goal.returns-clause-ok
returns-clause-ok c =
    let pieces = c.args.self.now in
    let put : c.extend_from_slice.new.self.items ≡ c.args.out.now.items ++ c.write_header.new.out = search rules in
    header_put pieces.form pieces.hdpi pieces.vdpi pieces.pages pieces.lines pieces.draws.state c.args.out.now.items
    c.extend_from_slice.new.self.items c.write_header.new.out c.requires.pages c.requires.lines c.write_header.ensures.bytes put
