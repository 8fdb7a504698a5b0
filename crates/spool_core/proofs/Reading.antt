-- Files read one after another, and where that stops.
use Rattle.std.proofs.Common.{◌≡◌, ℕ, ◌+◌, ◌<◌, ◌≤◌, List, [], ◌∷◌, ◌++◌, length, map, get_or, take, drop, sym, refl, ◌∙◌, ap, subst, arith, append-nil, Option, Some}
use Rattle.std.specs.Prelude.{slice_get}
use Rattle.std.proofs.lemmas.List.{get_or_default, length-take-le, map_push, take_all}
use Rattle.driver_core.specs.Outside.{Texts}
use Rattle.weave_base.specs.Causes.{Rose}
use Rattle.weave_base.specs.Shelf.{NamedText}
use Rattle.spool_core.specs.Files.{AreFiles, FilesOutcome, HasStreams, IsFile, IsNextFile, IsNextName, IsRefusedFile, IsRefusedName, RefusesFile}
use Rattle.spool_core.specs.Files.{StopsAtFile, StopsAtName, bytes_in, joined}
use Rattle.spool_core.specs.declared.answer.SpoolAnswer.{SpoolAnswer}
use Rattle.spool_core.specs.declared.answer.SpoolAnswer.TheVariants as answer
use Rattle.spool_core.proofs.Lists.{cut_at, flat_map-append, more_taken, read_at, rose_later}

pub bytes_in-append : (xs ys : List (List ℕ)) → bytes_in (xs ++ ys) ≡ bytes_in xs + bytes_in ys
bytes_in-append [] ys = omega arith
bytes_in-append (x ∷ xs) ys = let more = bytes_in-append xs ys in omega arith

pub bytes_in_push : (xs : List (List ℕ)) (x : List ℕ) → bytes_in (xs ++ x ∷ []) ≡ bytes_in xs + length x
bytes_in_push xs x = let push = bytes_in-append xs (x ∷ []) in omega arith

pub has_streams-append : (told : Option (List NamedText)) (taken : ℕ) (xs ss ys zs : List (List ℕ)) → HasStreams told taken xs ss
    → HasStreams told (taken + bytes_in ss) ys zs → HasStreams told taken (xs ++ ys) (ss ++ zs)
has_streams-append told taken [] [] ys zs h more = subst (λ n. HasStreams told n ys zs) (omega arith) more
has_streams-append told taken (x ∷ xs) (s ∷ ss) ys zs h more =
    let there : taken + (length s + bytes_in ss) ≡ taken + length s + bytes_in ss = omega arith in
    (h.0, has_streams-append told (taken + length s) xs ss ys zs h.1 (subst (λ n. HasStreams told n ys zs) there more))
has_streams-append told taken xs ss ys zs h more = absurd h

pub has_streams_length : (told : Option (List NamedText)) (taken : ℕ) (xs ss : List (List ℕ)) → HasStreams told taken xs ss → length ss ≡ length xs
has_streams_length told taken [] [] h = refl
has_streams_length told taken (x ∷ xs) (s ∷ ss) h =
    let more = has_streams_length told (taken + length s) xs ss h.1 in omega arith
has_streams_length told taken xs ss h = absurd h

-- one more file of a sender
pub one_more : (told : Option (List NamedText)) (before taken : ℕ) (names : List (List ℕ)) (i j : ℕ) (list : List (List ℕ)) (name stream : List ℕ)
    → HasStreams told before (take i names) list → taken ≡ before + bytes_in list → slice_get names j ≡ Some name → j ≡ i
    → IsFile told taken name stream → HasStreams told before (take (i + 1) names) (list ++ stream ∷ [])
one_more told before taken names i j list name stream has is got same file =
    let at = read_at names i name (subst (λ n. slice_get names n ≡ Some name) same got) in
    subst (λ ns. HasStreams told before ns (list ++ stream ∷ [])) (sym (more_taken names i name at.0 at.1))
    (has_streams-append told before (take i names) list (name ∷ []) (stream ∷ []) has
    (subst (λ n. IsFile told n name stream) is file, tt))

-- the file of a sender that is read next
next_name : (told : Option (List NamedText)) (before : ℕ) (names : List (List ℕ)) (i n : ℕ) (list : List (List ℕ)) (name : List ℕ)
    → HasStreams told before (take i names) list → slice_get names i ≡ Some name → n ≡ i + 1
    → (at : IsNextName told before names n) × (at.streams ≡ list) × (at.name ≡ name)
next_name told before names i n list name has got counted =
    let at = read_at names i name got in
    let front = length-take-le i names (omega (arith, at.0)) in (
      record {
        first = take i names;
        name = name;
        later = drop (i + 1) names;
        names_are = cut_at names i name at.0 at.1;
        job_is = omega arith;
        streams = list;
        earlier = has;
      },
      refl,
      refl,
    )

-- a file of a sender is not read
pub stops_at_name : (shelf last : Texts) (before taken : ℕ) (names : List (List ℕ)) (i j sender number : ℕ) (list : List (List ℕ)) (name : List ℕ)
    (a : SpoolAnswer) → last.told ≡ shelf.told → shelf.faults_before ≤ last.faults_before → last.faults_now ≡ shelf.faults_now
    → HasStreams shelf.told before (take i names) list → taken ≡ before + bytes_in list → slice_get names j ≡ Some name → j ≡ i
    → number ≡ i + 1 → StopsAtFile last taken name sender number a → StopsAtName shelf before names sender a
stops_at_name shelf last before taken names i j sender number list name (answer.File s n cause) told later now has is got same counted stops =
    let at = next_name shelf.told before names i n list name has (subst (λ m. slice_get names m ≡ Some name) same got) (stops.1 ∙ counted) in
    let refused = subst (λ t. RefusesFile t taken name cause) told stops.2 in (
      stops.0,
      record {
        place = at.0;
        refused = subst (λ ss. RefusesFile shelf.told (before + bytes_in ss) at.0.name cause) (sym at.1)
            (subst (λ m. RefusesFile shelf.told (before + bytes_in list) m cause) (sym at.2)
            (subst (λ m. RefusesFile shelf.told m name cause) is refused));
      },
    )
stops_at_name shelf last before taken names i j sender number list name (answer.ReadFile s n) told later now has is got same counted stops = (
  stops.0,
  (next_name shelf.told before names i n list name has (subst (λ m. slice_get names m ≡ Some name) same got) (stops.1 ∙ counted)).0,
  rose_later later (subst (λ n. Rose last.faults_before n) now stops.2),
)
stops_at_name shelf last before taken names i j sender number list name answer.Memory told later now has is got same counted stops = tt
stops_at_name shelf last before taken names i j sender number list name other told later now has is got same counted stops = absurd stops

-- What was read of the first `i` senders.
pub record ReadSoFar (told : Option (List NamedText)) (names lists : List (List (List ℕ))) (i taken : ℕ) : Type 0 where
  pub streams : HasStreams told 0 (joined (take i names)) (joined lists)
  pub lengths : map length lists ≡ map length (take i names)
  pub taken_is : taken ≡ bytes_in (joined lists)

joined_push : (lists : List (List (List ℕ))) (list : List (List ℕ)) → joined (lists ++ list ∷ []) ≡ joined lists ++ list
joined_push lists list = flat_map-append (λ l. l) lists (list ∷ []) ∙ ap (λ l. joined lists ++ l) (append-nil list)

-- the files of one more sender
pub one_sender_more : (told : Option (List NamedText)) (names lists : List (List (List ℕ))) (list : List (List ℕ)) (i j taken now : ℕ)
    → i < length names → j ≡ i → ReadSoFar told names lists i taken → HasStreams told taken (get_or names j []) list
    → now ≡ taken + bytes_in list → ReadSoFar told names (lists ++ list ∷ []) (i + 1) now
one_sender_more told names lists list i j taken now lt same so_far has is =
    let here = get_or names i [] in
    let read : HasStreams told taken here list = subst (λ n. HasStreams told taken (get_or names n []) list) same has in
    let front : take (i + 1) names ≡ take i names ++ here ∷ [] = more_taken names i here lt (get_or_default names i [] here lt) in
    let all : HasStreams told 0 (joined (take i names) ++ here) (joined lists ++ list) =
    has_streams-append told 0 (joined (take i names)) (joined lists) here list so_far.streams
    (subst (λ n. HasStreams told n here list) (let e = so_far.taken_is in omega arith) read) in
    record {
      streams = subst (λ ns. HasStreams told 0 ns (joined (lists ++ list ∷ []))) (sym (ap joined front ∙ joined_push (take i names) here))
          (subst (λ ss. HasStreams told 0 (joined (take i names) ++ here) ss) (sym (joined_push lists list)) all);
      lengths = map_push length lists list
          ∙ ap (λ l. map length lists ++ l ∷ []) (has_streams_length told taken here list read)
          ∙ ap (λ ls. ls ++ length here ∷ []) so_far.lengths
          ∙ sym (ap (map length) front ∙ map_push length (take i names) here);
      taken_is = let e = so_far.taken_is in
          let f = ap bytes_in (joined_push lists list) ∙ bytes_in-append (joined lists) list in omega arith;
    }

-- the files of all senders
pub all_read : (told : Option (List NamedText)) (names lists : List (List (List ℕ))) (i taken : ℕ) → length names ≤ i
    → ReadSoFar told names lists i taken → AreFiles told names lists
all_read told names lists i taken le so_far =
    let whole = take_all i names le in
    record {
      senders = subst (λ ns. map length lists ≡ map length ns) whole so_far.lengths;
      streams = subst (λ ns. HasStreams told 0 (joined ns) (joined lists)) whole so_far.streams;
    }

-- the file that is read next, of all senders
next_file : (told : Option (List NamedText)) (names lists : List (List (List ℕ))) (i j taken s n sender : ℕ) → i < length names → j ≡ i
    → s ≡ sender → sender ≡ i + 1 → ReadSoFar told names lists i taken → (of : IsNextName told taken (get_or names j []) n)
    → (at : IsNextFile told names s n) × (bytes_in at.streams ≡ taken + bytes_in of.streams) × (at.name ≡ of.name)
next_file told names lists i j taken s n sender lt same who counted so_far of =
    let here = get_or names i [] in
    let names_are : here ≡ of.first ++ of.name ∷ of.later = subst (λ m. get_or names m [] ≡ of.first ++ of.name ∷ of.later) same of.names_are in
    let front = length-take-le i names (omega arith) in
    let sum = bytes_in-append (joined lists) of.streams in
    let e = so_far.taken_is in (
      record {
        before = take i names;
        first = of.first;
        name = of.name;
        later = of.later;
        after = drop (i + 1) names;
        names_are = subst (λ (l : List (List ℕ)). names ≡ take i names ++ l ∷ drop (i + 1) names) names_are (cut_at names i here lt (get_or_default names i [] here lt));
        sender_is = omega arith;
        job_is = of.job_is;
        streams = joined lists ++ of.streams;
        earlier = has_streams-append told 0 (joined (take i names)) (joined lists) of.first of.streams so_far.streams
            (subst (λ m. HasStreams told m of.first of.streams) (omega arith) of.earlier);
      },
      omega arith,
      refl,
    )

-- not all files of a sender are read
pub stops_at_sender : (shelf last : Texts) (names lists : List (List (List ℕ))) (i j taken sender : ℕ) (a : SpoolAnswer)
    → last.told ≡ shelf.told → shelf.faults_before ≤ last.faults_before → last.faults_now ≡ shelf.faults_now
    → i < length names → j ≡ i → sender ≡ i + 1 → ReadSoFar shelf.told names lists i taken
    → StopsAtName last taken (get_or names j []) sender a → FilesOutcome names shelf a
stops_at_sender shelf last names lists i j taken sender (answer.File s n cause) told later now lt same counted so_far stops =
    let refused : IsRefusedName shelf.told taken (get_or names j []) n cause = subst (λ t. IsRefusedName t taken (get_or names j []) n cause) told stops.1 in
    let at = next_file shelf.told names lists i j taken s n sender lt same stops.0 counted so_far refused.place in
    record {
      place = at.0;
      refused = subst (λ m. RefusesFile shelf.told m at.0.name cause) (sym at.1)
          (subst (λ m. RefusesFile shelf.told (taken + bytes_in refused.place.streams) m cause) (sym at.2) refused.refused);
    }
stops_at_sender shelf last names lists i j taken sender (answer.ReadFile s n) told later now lt same counted so_far stops =
    let place : IsNextName shelf.told taken (get_or names j []) n = subst (λ t. IsNextName t taken (get_or names j []) n) told stops.1 in (
      (next_file shelf.told names lists i j taken s n sender lt same stops.0 counted so_far place).0,
      rose_later later (subst (λ n. Rose last.faults_before n) now stops.2),
    )
stops_at_sender shelf last names lists i j taken sender answer.Memory told later now lt same counted so_far stops = tt
stops_at_sender shelf last names lists i j taken sender other told later now lt same counted so_far stops = absurd stops

-- the files are read after the shelf was asked for something else
pub later_files : (names : List (List (List ℕ))) (shelf last : Texts) (a : SpoolAnswer) → last.told ≡ shelf.told
    → shelf.faults_before ≤ last.faults_before → last.faults_now ≡ shelf.faults_now → FilesOutcome names last a → FilesOutcome names shelf a
later_files names shelf last (answer.File s n cause) told later now stops = subst (λ t. IsRefusedFile t names s n cause) told stops
later_files names shelf last (answer.ReadFile s n) told later now stops =
    (subst (λ t. IsNextFile t names s n) told stops.0, rose_later later (subst (λ n. Rose last.faults_before n) now stops.1))
later_files names shelf last answer.Memory told later now stops = tt
later_files names shelf last other told later now stops = absurd stops
