-- Less than a command, piece by piece.
use Rattle.std.proofs.Common.{◌≡◌, ℕ, ◌+◌, ◌-◌, ◌≤◌, false, List, [], ◌++◌, length, Option, ap, ◌∙◌, arith, length-append, refl}
use Rattle.std.specs.Io.KnownBytes.{Consumes, Keeps}
use Rattle.std.proofs.KnownBytes.{Consumes-kept, Consumes-nil, Consumes-trans}
use Rattle.escp2_definitions.specs.declared.command.Command.{Command}
use Rattle.escp2_definitions.specs.declared.stops.JobCause.{JobCause}
use Rattle.escp2_definitions.specs.Commands.{command_at}
use Rattle.escp2_definitions.specs.Commands.Heard.{Wrong}
use Rattle.escp2_reader.specs.declared.reader.HeardState.{HeardState}
use Rattle.escp2_reader.specs.declared.reader.HeardState.TheVariants as heard
use Rattle.escp2_reader.specs.declared.reader.JobReader.{JobReader}
use Rattle.escp2_reader.specs.Reading.{StandsFor, begin_of, is_failed_of}
use Rattle.escp2_reader.specs.declared.feed.JobFeed.{JobFeed}
use Rattle.escp2_reader.specs.Feeding.{IsBetween, MeetsFault, TakesCommand, TakesPart, at_of, text_of}
use Rattle.escp2_reader.specs.Pieces.{FeedsSome}
use Rattle.buffered_bytes.proofs.Texts.{text_used}

-- Since the last command less than a command was taken, and the reader used it.
pub record GoesOn (old : JobFeed) (reader : JobReader) (fed most : ℕ) (before text : Option (List ℕ)) : Type 0 where
  pub bytes : List ℕ
  pub takes : TakesPart old before text bytes
  pub stands : StandsFor reader bytes
  pub is_open : is_failed_of reader ≡ false
  pub fed_is : fed ≡ old.fed + length bytes
  pub most_is : most ≡ old.most

-- nothing was taken yet
pub goes_first : (old : JobFeed) (text : Option (List ℕ)) → IsBetween old → GoesOn old old.reader old.fed old.most text text
unfolding command_at
goes_first old text between = record {
  bytes = [];
  takes = record { taken = Consumes-nil text; part = refl; within = omega (arith, old.within) };
  stands = between.stands;
  is_open = between.is_open;
  fed_is = omega arith;
  most_is = refl;
}

-- a read keeps the text
pub goes_filled : {old : JobFeed} {reader : JobReader} {fed most : ℕ} {before text now : Option (List ℕ)}
    → GoesOn old reader fed most before text → Keeps text now
    → GoesOn old reader fed most before now
goes_filled {before} {text} {now} goes kept = record {
  bytes = goes.bytes;
  takes = record {
    taken = Consumes-kept before text now goes.bytes goes.takes.taken kept;
    part = goes.takes.part;
    within = goes.takes.within;
  };
  stands = goes.stands;
  is_open = goes.is_open;
  fed_is = goes.fed_is;
  most_is = goes.most_is;
}

-- What the reader used, with one piece more, and its answer.
record Fed (old new : JobFeed) (state : HeardState) (before now : Option (List ℕ)) (goes piece : List ℕ) : Type 0 where
  taken : Consumes before now (goes ++ piece)
  fed_is : new.fed ≡ old.fed + length (goes ++ piece)
  within : old.fed + length (goes ++ piece) ≤ old.most

fed : (old feed new : JobFeed) (state : HeardState) (before left : Option (List ℕ))
    (goes : GoesOn old feed.reader feed.fed feed.most before (text_of feed left))
    (feeds : FeedsSome feed new state) → new.most ≡ feed.most → Fed old new state before (text_of new left) goes.bytes feeds.bytes
fed old feed new state before left goes feeds most = record {
  taken = Consumes-trans before (text_of feed left) (text_of new left) goes.bytes feeds.bytes goes.takes.taken
      (text_used left feed.unread feeds.bytes new.unread feeds.is);
  fed_is = omega (arith, length-append goes.bytes feeds.bytes, goes.fed_is, feeds.fed);
  within = omega (arith, length-append goes.bytes feeds.bytes, goes.fed_is, feeds.fed, most, goes.most_is, new.within);
}

-- the current command began where the feed stood
begins : (old feed : JobFeed) (before text : Option (List ℕ)) → GoesOn old feed.reader feed.fed feed.most before text
    → begin_of feed.reader ≡ at_of old
begins old feed before text goes = omega (arith, goes.stands.fed, goes.fed_is, feed.fed_is)

pub goes_more : {old feed new : JobFeed} {before : Option (List ℕ)} (left : Option (List ℕ))
    → GoesOn old feed.reader feed.fed feed.most before (text_of feed left) → FeedsSome feed new heard.More
    → new.most ≡ feed.most → GoesOn old new.reader new.fed new.most before (text_of new left)
goes_more {old} {feed} {new} {before} left goes feeds most =
    let more = fed old feed new heard.More before left goes feeds most in
    let hears = feeds.heard goes.bytes goes.stands in
    record {
      bytes = goes.bytes ++ feeds.bytes;
      takes = record { taken = more.taken; part = hears.part; within = more.within };
      stands = hears.stands;
      is_open = feeds.failed;
      fed_is = more.fed_is;
      most_is = most ∙ goes.most_is;
    }

pub takes_command : {old feed new : JobFeed} {command : Command} {before : Option (List ℕ)} (left : Option (List ℕ))
    → GoesOn old feed.reader feed.fed feed.most before (text_of feed left)
    → FeedsSome feed new (heard.One command) → new.most ≡ feed.most
    → TakesCommand old new before (text_of new left) (record { at = old.fed; command = command })
takes_command {old} {feed} {new} {command} {before} left goes feeds most =
    let more = fed old feed new (heard.One command) before left goes feeds most in
    let hears = feeds.heard goes.bytes goes.stands in
    record {
      bytes = goes.bytes ++ feeds.bytes;
      taken = more.taken;
      at = refl;
      whole = hears.whole;
      spelled = hears.spelled;
      behind = more.fed_is;
      within = new.within;
      most = most ∙ goes.most_is;
      between = record { stands = hears.stands; is_open = feeds.failed };
    }

pub meets_fault : {old feed new : JobFeed} {offset : ℕ} {cause : JobCause} {before : Option (List ℕ)} (left : Option (List ℕ))
    → GoesOn old feed.reader feed.fed feed.most before (text_of feed left)
    → FeedsSome feed new (heard.Fault offset cause) → new.most ≡ feed.most → MeetsFault old before (text_of new left) offset cause
meets_fault {old} {feed} {new} {offset} {cause} {before} left goes feeds most =
    let more = fed old feed new (heard.Fault offset cause) before left goes feeds most in
    let hears = feeds.heard goes.bytes goes.stands in
    let began = begins old feed before (text_of feed left) goes in
    record {
      bytes = goes.bytes ++ feeds.bytes;
      taken = more.taken;
      behind = omega (arith, began, hears.behind);
      wrong = λ rest. hears.wrong rest ∙ ap (λ at. Wrong (offset - at) cause) began;
      within = more.within;
    }
