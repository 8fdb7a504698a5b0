use Rattle.std.proofs.Common.{arith, length, length-take, length-take-le, take, List, ℕ, ◌<◌, ◌-◌, ◌+◌, ◌≡◌, sym, ap, ◌∙◌}
use Rattle.escp2_reader.proofs.Pieces.{piece_used}
use Rattle.escp2_reader.proofs.feed.JobFeed.feed_piece.Goals as goal

pub returns-clause-fed : goal.returns-clause-fed
returns-clause-fed c =
    let feed = c.args.self.now in
    let heard = c.feed-heard in
    let piece : List ℕ = c.first_bytes-piece.result.now in
    let is : piece ≡ take (feed.most - feed.fed) feed.unread = c.first_bytes-piece.ensures
    ∙ ap (take (feed.most - feed.fed)) c.bytes.ensures.bytes in
    let used : length (take heard.result.used piece) ≡ heard.result.used = length-take-le heard.result.used piece heard.ensures.used in
    let long : 0 < length piece = omega (
      arith,
      ap length is,
      length-take (feed.most - feed.fed) feed.unread,
      c.requires.some,
      c.requires.room,
    ) in
    record {
      bytes = take heard.result.used piece;
      some = omega (arith, used, heard.ensures.some c.requires.is_open long);
      is = piece_used feed.unread piece c.use_up.new.self (feed.most - feed.fed) heard.result.used is c.use_up.ensures heard.ensures.used;
      fed = ap (λ n. feed.fed + n) (sym used);
      failed = heard.ensures.failed;
      heard = heard.ensures.heard;
    }
