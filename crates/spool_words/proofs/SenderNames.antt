-- The names of one sender.
use Rattle.std.proofs.Common.{◌≡◌, ℕ, zero, suc, ◌+◌, ◌-◌, ◌<◌, ◌≤◌, true, List, [], ◌∷◌, length, take, get_or, Option, Some, None, Ok}
use Rattle.std.proofs.Common.{IsSome, slice_get, ap, sym, refl, ◌∙◌, arith}
use Rattle.std.specs.List.{AllByRecursion, count_by, filter}
use Rattle.std.specs.Option.{option_map}
use Rattle.std.proofs.lemmas.Option.{get_or_from_slice_get, slice_get-get_or, slice_get-map}
use denote.Ref.{Bor}
use Rattle.key_values.specs.Pairs.{value_of}
use Rattle.job_words.specs.Meaning.{gives}
use Rattle.spool_words.specs.declared.reading.SpoolRequest.{SpoolRequest}
use Rattle.spool_words.specs.Keys.{send_key}
use Rattle.spool_words.specs.Meaning.{names_from, names_of, sender_count, spool_meaning}
use Rattle.spool_words.specs.Names.{names_in}
use Rattle.spool_words.specs.Requests.{AreNames}
use Rattle.spool_words.proofs.Accepted.{within_bounds, words_accepted}
use Rattle.spool_words.proofs.FirstWords.{kept_at}

-- the value of a sender's word
abbrev pub value_sent : List (List ℕ) → ℕ → Option (List ℕ)
value_sent words sender = option_map value_of (slice_get (filter (gives send_key) words) (sender - 1))

pub sent_here : (words : List (List ℕ)) (i sender count : ℕ) (word value : List ℕ) → slice_get words i ≡ Some word
    → gives send_key word ≡ true → count ≡ count_by (gives send_key) (take i words) → count + 1 ≡ sender
    → value ≡ value_of word → value_sent words sender ≡ Some value
sent_here words i sender count word value here sends counted one is =
    let place : sender - 1 ≡ count_by (gives send_key) (take i words) = omega (arith, counted, one) in
    ap (λ k. option_map value_of (slice_get (filter (gives send_key) words) k)) place
    ∙ ap (option_map value_of) (kept_at (gives send_key) words i word here sends)
    ∙ ap Some (sym is)

-- its names are those of the sender
pub names_here : (words : List (List ℕ)) (sender : ℕ) (value : List ℕ) → value_sent words sender ≡ Some value
    → names_from words sender ≡ names_in value
names_here words sender value here =
    get_or_from_slice_get (names_of words) (sender - 1) (names_in value) []
    (slice_get-map (λ word. names_in (value_of word)) (filter (gives send_key) words) (sender - 1)
    ∙ by_word (slice_get (filter (gives send_key) words) (sender - 1)) here) where
      by_word : (o : Option (List ℕ)) → option_map value_of o ≡ Some value
          → option_map (λ word. names_in (value_of word)) o ≡ Some (names_in value)
      by_word None h = absurd cc
      by_word (Some word) h = let same : value_of word ≡ value = cc in ap (λ text. Some (names_in text)) same

all_at : {X : Type 0} (P : X → Type 0) (xs : List X) (k : ℕ) (d : X) → AllByRecursion P xs → k < length xs → P (get_or xs k d)
all_at P [] k d all within = absurd (omega arith)
all_at P (x ∷ xs) zero d all within = all.0
all_at P (x ∷ xs) (suc k) d all within = all_at P xs k d all.1 (omega arith)

pub good_names : (words : List (List ℕ)) (request : SpoolRequest) (sender : ℕ) → spool_meaning words ≡ Ok request → 1 ≤ sender
    → sender ≤ request.senders → AreNames (names_from words sender)
good_names words request sender means some within =
    let bounds = within_bounds words request means in
    all_at AreNames (names_of words) (sender - 1) [] bounds.names (omega (arith, bounds.senders))

pub has_sender : (words : List (List ℕ)) (request : SpoolRequest) (sender : ℕ) → spool_meaning words ≡ Ok request
    → sender ≤ request.senders → sender ≤ sender_count words
has_sender words request sender means within =
    let is : sender_count words ≡ request.senders = ap (λ (r : SpoolRequest). r.senders) (words_accepted words request means).request_is in
    omega (arith, is)

-- `nth` gives the name at a place
pub name_found : (names : List (List ℕ)) (k : ℕ) (found : Option (Bor (List ℕ)))
    → k < length names → option_map (λ text. text.now) found ≡ slice_get names k → IsSome found
name_found names k None within is = absurd (let some = slice_get-get_or names k [] within in cc)
name_found names k (Some text) within is = refl

pub name_here : (names : List (List ℕ)) (k : ℕ) (found : Option (Bor (List ℕ))) (result : Bor (List ℕ))
    → option_map (λ text. text.now) found ≡ slice_get names k → found ≡ Some result → slice_get names k ≡ Some (result.now)
name_here names k found result is given = sym is ∙ ap (option_map (λ (b : Bor (List ℕ)). b.now)) given
