-- The listing of the commands that a feed answered.
use Rattle.std.proofs.Common.{◌≡◌, ℕ, ◌≤◌, List, Option, Err, [], ◌∷◌, ◌++◌, sym, ◌∙◌, ap, subst, arith, append-nil, refl}
use Rattle.std.proofs.lemmas.List.Concat.{flat_map-append}
use Rattle.std.specs.Io.KnownBytes.{Appends, Consumes}
use Rattle.std.proofs.KnownBytes.{Appends-nil}
use Rattle.escp2_definitions.specs.Commands.{Entry}
use Rattle.buffered_bytes.specs.declared.gathered.Gathered.{Gathered}
use Rattle.buffered_bytes.specs.Gathering.{Writes, gathered}
use Rattle.buffered_bytes.proofs.Writing.{GathersSoFar, gathers_all, gathers_begin, gathers_more, gathers_part}
use Rattle.escp2_reader.specs.declared.feed.FeedStop.{FeedStop}
use Rattle.escp2_reader.specs.declared.feed.FeedStop.TheVariants as feed_is
use Rattle.escp2_reader.specs.declared.feed.JobFeed.{JobFeed}
use Rattle.escp2_reader.specs.declared.feed.PlacedCommand.{PlacedCommand}
use Rattle.escp2_reader.specs.Feeding.{HasEnded, IsStopped, TakesCommand, at_of, heard_of, most_of, text_of, unread_of}
use Rattle.escp2_reader.proofs.Jobs.{GaveCommands, entry_of, gave_more, gave_none, job_ended, job_refused, nothing_taken, rose_within, takes_all, takes_gave}
use Rattle.job_lister.specs.Listing.{line_of, listing}
use Rattle.job_lister.specs.declared.lister.ListStop.{ListStop}
use Rattle.job_lister.specs.declared.lister.ListStop.TheVariants as stop
use Rattle.job_lister.specs.Lines.{feed_stop}
use Rattle.job_lister.specs.Outcome.{ListResult, ListsAll}
use Rattle.buffered_bytes.specs.Outside.{Outside}
use Rattle.weave_base.specs.Causes.{Rose}
use Rattle.weave_base.specs.Parts.{AppendsPart}

-- The commands that were given are listed: their lines were written, or are gathered.
pub record ListsSoFar (feed : JobFeed) (g : Gathered) (before text held now : Option (List ℕ)) : Type 0 where
  pub entries : List Entry
  pub gave : GaveCommands feed before text entries
  pub gathers : GathersSoFar held now (listing entries) (gathered g)

pub lists_none : (feed : JobFeed) (g : Gathered) (left held : Option (List ℕ)) → at_of feed ≡ 0 → unread_of feed ≡ [] → gathered g ≡ []
    → ListsSoFar feed g left (text_of feed left) held held
lists_none feed g left held at unread none = record {
  entries = [];
  gave = gave_none feed left at unread;
  gathers = gathers_begin held [] (gathered g) none;
}

pub lists_more : (old new : JobFeed) (g after : Gathered) {before text : Option (List ℕ)} (left : Option (List ℕ)) {held now now' : Option (List ℕ)} (placed : PlacedCommand)
    → ListsSoFar old g before text held now
    → TakesCommand old new text (text_of new left) placed
    → Writes now now' (gathered g) (gathered after) (line_of placed.at placed.command (heard_of new))
    → ListsSoFar new after before (text_of new left) held now'
lists_more old new g after {before} {text} left {held} {now} {now'} placed so_far takes writes =
    let line : List ℕ = line_of placed.at placed.command (heard_of new) in
    let P : List ℕ → Type 0 = λ text. GathersSoFar held now' text (gathered after) in
    record {
      entries = so_far.entries ++ entry_of new placed ∷ [];
      gave = gave_more old new before text (text_of new left) so_far.entries placed so_far.gave takes;
      gathers =
          subst P (sym (flat_map-append (λ entry. line_of entry.at entry.command entry.rows) so_far.entries (entry_of new placed ∷ [])
          ∙ ap (λ bs. listing so_far.entries ++ bs) (append-nil line)))
          (gathers_more held now now' (listing so_far.entries) (gathered g) (gathered after) line so_far.gathers writes);
    }

-- a write failed before the line of what was taken last
pub lists_part : (feed new : JobFeed) (g : Gathered) {before text left held now now' : Option (List ℕ)} (bytes : List ℕ)
    {f0 f1 g0 g1 g2 : ℕ} → ListsSoFar feed g before text held now
    → Consumes text (text_of new left) bytes → AppendsPart now now' (gathered g) → g0 ≤ g1 → Rose g1 g2
    → ListResult (most_of feed) (record { before = before; now = left; faults_before = f0; faults_now = f1 })
    (record { before = held; now = now'; faults_before = g0; faults_now = g2 }) (Err stop.Write)
lists_part feed new g {before} {text} {left} {held} {now} {now'} bytes {g0} {g1} {g2} so_far takes part later rose = (
  rose_within g0 g1 g2 g2 later rose (omega arith),
  record {
    entries = so_far.entries;
    takes = takes_gave feed new before text left so_far.entries bytes so_far.gave takes;
    writes = gathers_part held now now' (listing so_far.entries) (gathered g) so_far.gathers part;
  },
)

pub lists_all : (feed new : JobFeed) (g : Gathered) {before text left held now now' : Option (List ℕ)} {f0 f1 g0 g1 : ℕ}
    → ListsSoFar feed g before text held now
    → HasEnded text (text_of new left) → Appends now now' (gathered g)
    → ListsAll (most_of feed) (record { before = before; now = left; faults_before = f0; faults_now = f1 })
    (record { before = held; now = now'; faults_before = g0; faults_now = g1 })
lists_all feed new g {before} {text} {left} {held} {now} {now'} so_far ended all = record {
  entries = so_far.entries;
  takes = job_ended feed new before text left so_far.entries so_far.gave ended;
  writes = gathers_all held now now' (listing so_far.entries) (gathered g) so_far.gathers all;
}

pub lists_to_stop : (most : ℕ) (feed new : JobFeed) (g : Gathered) {text now : Option (List ℕ)} (input out : Outside) (faults : ℕ)
    (why : FeedStop) (answer : ListStop)
    → ListsSoFar feed g input.before text out.before now → IsStopped feed text (text_of new input.now) faults input.faults_now why
    → input.faults_before ≤ faults → Appends now out.now (gathered g)
    → (why ≡ feed_is.Read → unread_of new ≡ []) → most_of feed ≡ most → answer ≡ feed_stop why
    → ListResult most input out (Err answer)
lists_to_stop most feed new g {text} {now} input out faults why answer so_far stopped later all used most_is is =
    let P : ℕ → Type 0 = λ n. ListResult n input out (Err answer) in
    let Q : ListStop → Type 0 = λ stop. ListResult (most_of feed) input out (Err stop) in
    subst P most_is (subst Q (sym is) (by_stop why stopped used))
  where
    by_stop : (why : FeedStop) → IsStopped feed text (text_of new input.now) faults input.faults_now why
        → (why ≡ feed_is.Read → unread_of new ≡ []) → ListResult (most_of feed) input out (Err (feed_stop why))
    by_stop (feed_is.Job offset cause) stopped used = record {
      entries = so_far.entries;
      meets = job_refused feed input.before text (text_of new input.now) so_far.entries offset cause so_far.gave stopped;
      writes = gathers_all out.before now out.now (listing so_far.entries) (gathered g) so_far.gathers all;
    }
    by_stop feed_is.Read failed used = (
      rose_within input.faults_before faults input.faults_now input.faults_now later failed.rose (omega arith),
      record {
        entries = so_far.entries;
        takes = takes_all feed new input.before text input.now so_far.entries failed.bytes so_far.gave failed.takes (used refl);
        writes = gathers_all out.before now out.now (listing so_far.entries) (gathered g) so_far.gathers all;
      },
    )

-- there is no memory at the beginning
pub lists_nothing : (most : ℕ) {left held : Option (List ℕ)} {f0 f1 g0 g1 : ℕ}
    → ListResult most (record { before = left; now = left; faults_before = f0; faults_now = f1 })
    (record { before = held; now = held; faults_before = g0; faults_now = g1 }) (Err stop.Memory)
lists_nothing most {left} {held} = record {
  entries = [];
  takes = nothing_taken most left;
  writes = Appends-nil held;
}
