-- The passing of a job from one moment of a run to a later one, and then on.
use Rattle.std.proofs.Common.{◌≡◌, ℕ, ◌≤◌, List, [], ◌++◌, drop, Option, sym, ◌∙◌, ap, subst, arith}
use Rattle.std.proofs.Common.{append_assoc, append-nil, take-append-drop}
use Rattle.std.proofs.KnownBytes.{Appends-nil, Appends-trans}
use Rattle.buffered_bytes.specs.Outside.{Outside}
use Rattle.escp2_reader.proofs.Jobs.{rose_within}
use Rattle.finish_core.proofs.Seen.{IsBetween}
use Rattle.finish_core.specs.declared.halts.Halt.{Halt}
use Rattle.finish_core.specs.declared.halts.Halt.TheVariants as halt
use Rattle.finish_core.specs.declared.parts.Parts.{Parts}
use Rattle.finish_core.specs.Passing.{GoesOn, HaltsBetween, IsAskHalt, IsHalt, IsStop, PassesSeen, Reads, job_of, most_job, with_out}
use Rattle.finish_core.specs.Sides.{IsLater, Moment, Tells, err_from, out_from}
use Rattle.finish_definitions.specs.Finished.{whole_commands}
use Rattle.page_tally.specs.declared.lines.Telling.{Telling}
use Rattle.page_watch.specs.declared.watch.SeenState.{SeenState}
use Rattle.page_watch.specs.Watching.{seen_lines, tally_of, told}
use Rattle.weave_base.specs.Shelf.{NamedText}

-- ---- sinks

-- a sink from one moment to another
abbrev pub sink_from : Option (List ℕ) → Option (List ℕ) → ℕ → ℕ → Outside
sink_from before now f g = record { before = before; now = now; faults_before = f; faults_now = g }

-- what a sink got at first, and then
pub tells_both : (x y z : Option (List ℕ)) (f g h : ℕ) (first then : List ℕ) → f ≤ g → g ≤ h
    → Tells (sink_from x y f g) first → Tells (sink_from y z g h) then → Tells (sink_from x z f h) (first ++ then)
tells_both x y z f g h first then early late one two = λ calm.
    Appends-trans x y z first then
    (one (λ rose. calm (rose_within f f g h (omega arith) rose late)))
    (two (λ rose. calm (rose_within f g h h early rose (omega arith))))

-- nothing
pub tells_none : (x : Option (List ℕ)) (f g : ℕ) → Tells (sink_from x x f g) []
tells_none x f g = λ calm. Appends-nil x

-- the same bytes
pub tells_as : (s : Outside) (bytes others : List ℕ) → bytes ≡ others → Tells s bytes → Tells s others
tells_as s bytes others same tells = let P : List ℕ → Type 0 = Tells s in subst P same tells

-- ---- moments

pub later_same : (m : Moment) → IsLater m m
later_same m = record { out = omega arith; err = omega arith; shelf = omega arith }

pub later_on : (a b d : Moment) → IsLater a b → IsLater b d → IsLater a d
later_on a b d first then = record {
  out = omega (arith, first.out, then.out);
  err = omega (arith, first.err, then.err);
  shelf = omega (arith, first.shelf, then.shelf);
}

later_with : (a b : Moment) (held : Option (List ℕ)) → IsLater a b → IsLater a (with_out held b)
later_with a b held later = record { out = later.out; err = later.err; shelf = later.shelf }

-- ---- from some bytes of a job to more of them

pub goes_nowhere : (telling : Telling) (a : Moment) (x : List ℕ) → GoesOn telling a a x x
goes_nowhere telling a x = record {
  passes = record { bytes = []; grow = sym (append-nil (whole_commands x)); writes = Appends-nil a.out };
  lines = [];
  grow = sym (append-nil (told telling x));
  tells = tells_none a.err a.err_faults a.err_faults;
}

pub goes_on : (telling : Telling) (a b d : Moment) (x y z : List ℕ) → IsLater a b → IsLater b d → GoesOn telling a b x y → GoesOn telling b d y z
    → GoesOn telling a d x z
goes_on telling a b d x y z early late one two = record {
  passes = record {
    bytes = one.passes.bytes ++ two.passes.bytes;
    grow = two.passes.grow ∙ ap (λ bs. bs ++ two.passes.bytes) one.passes.grow
        ∙ append_assoc (whole_commands x) one.passes.bytes two.passes.bytes;
    writes = Appends-trans a.out b.out d.out one.passes.bytes two.passes.bytes one.passes.writes two.passes.writes;
  };
  lines = one.lines ++ two.lines;
  grow = two.grow ∙ ap (λ bs. bs ++ two.lines) one.grow ∙ append_assoc (told telling x) one.lines two.lines;
  tells = tells_both a.err b.err d.err a.err_faults b.err_faults d.err_faults one.lines two.lines early.err late.err one.tells two.tells;
}

-- to the same bytes
pub goes_to : (telling : Telling) (a b : Moment) (x y z : List ℕ) → y ≡ z → GoesOn telling a b x y → GoesOn telling a b x z
goes_to telling a b x y z same goes = let P : List ℕ → Type 0 = GoesOn telling a b x in subst P same goes

pub reads_as : (parts : Parts) (x y : List ℕ) → x ≡ y → Reads parts x → Reads parts y
reads_as parts x y same reads = let P : List ℕ → Type 0 = Reads parts in subst P same reads

-- an event, whose lines are told
pub goes_event : (telling : Telling) (parts : Parts) (a b : Moment) (x y : List ℕ) (state : SeenState)
    → PassesSeen telling parts (out_from a b) x y state → Tells (err_from a b) (seen_lines telling (tally_of parts.watch) state)
    → GoesOn telling a b x y
goes_event telling parts a b x y state passes tells = record {
  passes = passes.passes;
  lines = seen_lines telling (tally_of parts.watch) state;
  grow = passes.lines;
  tells = tells;
}

-- ---- why a job is not passed on

-- the parts stop
pub stop_halts : (telling : Telling) (stop : Option (List ℕ)) (files : Option (List NamedText)) (parts : Parts) (a b : Moment)
    (x full : List ℕ) (why : Halt) → IsStop telling parts (out_from a b) x full why → Tells (err_from a b) []
    → IsHalt telling stop files parts a b x full why
stop_halts telling stop files parts a b x full (halt.Write page) stops quiet = (
  stops.0,
  record {
    front = x;
    rest = stops.1.rest;
    next = stops.1.next;
    more = stops.1.more;
    split = stops.1.split;
    grow = stops.1.grow;
    near = stops.1.near;
    page_is = stops.1.page_is;
    middle = a.out;
    goes = record {
      passes = record { bytes = []; grow = sym (append-nil (whole_commands x)); writes = Appends-nil a.out };
      lines = [];
      grow = sym (append-nil (told telling x));
      tells = quiet;
    };
    part = stops.1.part;
  },
)
stop_halts telling stop files parts a b x full (halt.Job offset cause) stops quiet = (
  (
    record {
      passes = stops.passes;
      lines = [];
      grow = stops.lines ∙ sym (append-nil (told telling x));
      tells = quiet;
    },
    stops.stands,
  ),
  stops.refused,
)
stop_halts telling stop files parts a b x full other stops quiet = absurd stops

-- all bytes of a job, behind those that it may have
full_split : (full front rest : List ℕ) → job_of full ≡ front ++ rest → full ≡ front ++ (rest ++ drop most_job full)
full_split full front rest is =
    sym (take-append-drop most_job full) ∙ ap (λ bs. bs ++ drop most_job full) is ∙ append_assoc front rest (drop most_job full)

-- by what the shelf holds
pub halts_as : (telling : Telling) (stop : Option (List ℕ)) (others files : Option (List NamedText)) (parts : Parts) (a b : Moment)
    (x full : List ℕ) (why : Halt) → others ≡ files → IsHalt telling stop others parts a b x full why
    → IsHalt telling stop files parts a b x full why
halts_as telling stop others files parts a b x full why same halts =
    let P : Option (List NamedText) → Type 0 = λ held. IsHalt telling stop held parts a b x full why in
    subst P same halts

-- behind a reset
pub halts_between : (telling : Telling) (a b : Moment) (x front rest full : List ℕ) → IsBetween front → job_of full ≡ front ++ rest
    → GoesOn telling a b x front → HaltsBetween telling a b x full
halts_between telling a b x front rest full between is goes = record {
  front = front;
  rest = rest ++ drop most_job full;
  split = full_split full front rest is;
  whole = between.whole;
  between = between.between;
  goes = goes;
}

-- the shelf ends a run there
pub ask_halts : (telling : Telling) (stop : Option (List ℕ)) (files : Option (List NamedText)) (parts : Parts) (a b : Moment) (f : ℕ)
    (x full : List ℕ) (why : Halt) → HaltsBetween telling a b x full → a.shelf_faults ≤ f → IsAskHalt stop files f b.shelf_faults why
    → IsHalt telling stop files parts a b x full why
ask_halts telling stop files parts a b f x full halt.Asked between early asked = (between, asked)
ask_halts telling stop files parts a b f x full halt.Shelf between early asked =
    (between, rose_within a.shelf_faults f b.shelf_faults b.shelf_faults early asked (omega arith))
ask_halts telling stop files parts a b f x full halt.Memory between early asked = (between, asked)
ask_halts telling stop files parts a b f x full other between early asked = absurd asked

between_behind : (telling : Telling) (a b d : Moment) (x y full : List ℕ) → IsLater a b → IsLater b d → GoesOn telling a b x y
    → HaltsBetween telling b d y full → HaltsBetween telling a d x full
between_behind telling a b d x y full early late goes halts = record {
  front = halts.front;
  rest = halts.rest;
  split = halts.split;
  whole = halts.whole;
  between = halts.between;
  goes = goes_on telling a b d x y halts.front early late goes halts.goes;
}

-- The job is not passed on, behind bytes that were.
pub halts_behind : (telling : Telling) (stop : Option (List ℕ)) (files : Option (List NamedText)) (parts : Parts) (a b d : Moment)
    (x y full : List ℕ) (why : Halt) → IsLater a b → IsLater b d → GoesOn telling a b x y
    → IsHalt telling stop files parts b d y full why → IsHalt telling stop files parts a d x full why
halts_behind telling stop files parts a b d x y full halt.Asked early late goes halts =
    (between_behind telling a b d x y full early late goes halts.0, halts.1)
halts_behind telling stop files parts a b d x y full halt.Shelf early late goes halts = (
  between_behind telling a b d x y full early late goes halts.0,
  rose_within a.shelf_faults b.shelf_faults d.shelf_faults d.shelf_faults early.shelf halts.1 (omega arith),
)
halts_behind telling stop files parts a b d x y full halt.Memory early late goes halts =
    (between_behind telling a b d x y full early late goes halts.0, halts.1)
halts_behind telling stop files parts a b d x y full (halt.Write page) early late goes halts = (
  rose_within a.out_faults b.out_faults d.out_faults d.out_faults early.out halts.0 (omega arith),
  record {
    front = halts.1.front;
    rest = halts.1.rest;
    next = halts.1.next;
    more = halts.1.more;
    split = halts.1.split;
    grow = halts.1.grow;
    near = halts.1.near;
    page_is = halts.1.page_is;
    middle = halts.1.middle;
    goes = goes_on telling a b (with_out halts.1.middle d) x y halts.1.front early (later_with b d halts.1.middle late) goes halts.1.goes;
    part = halts.1.part;
  },
)
halts_behind telling stop files parts a b d x y full (halt.Job offset cause) early late goes halts =
    ((goes_on telling a b d x y (job_of full) early late goes halts.0.0, halts.0.1), halts.1)
halts_behind telling stop files parts a b d x y full halt.Read early late goes halts = absurd halts
