use Rattle.std.proofs.Common.{subst}
use Rattle.std.specs.List.{AllByRecursion}
use Rattle.pwg_definitions.specs.Stream.{IsPage, Stream}
use Rattle.pwg_laws.proofs.PageLaws.{stream-pages}
use Rattle.page_maker.specs.Made.{made_stream}
use Rattle.page_maker.proofs.Spelled.{length-made_pages, stream-made}
use Rattle.page_maker.proofs.laws.made_stream_is_read.Goals as goal

pub returns-clause-read : goal.returns-clause-read
returns-clause-read c = stream-made

pub returns-clause-wanted : goal.returns-clause-wanted
returns-clause-wanted c = λ want seed pages form few wanted width height bytes across down.
    let P : Stream → Type 0 = λ s. AllByRecursion (IsPage want) s.pages in
    subst P (stream-made want seed pages form few wanted width height bytes across down)
    (stream-pages want (made_stream seed pages form want.hdpi want.vdpi))

pub returns-clause-many : goal.returns-clause-many
returns-clause-many c = length-made_pages
