-- Draws, one after another.
use Rattle.std.proofs.Common.{◌≡◌, ℕ, zero, suc, ◌+◌, ◌*◌, ◌/◌, ◌%◌, ◌<◌, List, [], ◌∷◌, ◌++◌, length, take, refl, sym, ◌∙◌, ap, arith}
use Rattle.std.proofs.Common.{add-one}
use Rattle.std.proofs.Math.ListN.{set}
use Rattle.std.proofs.lemmas.List.{take_more_set}
use Rattle.page_maker.specs.Made.{draw, drawn, next_state, state_after}

-- the state that 32 bits with wrapping give
pub next_state-wraps : (state : ℕ) → (state * 1664525 % 4294967296 + 1013904223) % 4294967296 ≡ next_state state
unfolding next_state
next_state-wraps state = omega arith

-- its highest byte
pub draw-wraps : (state : ℕ) → (state * 1664525 % 4294967296 + 1013904223) % 4294967296 / 16777216 ≡ draw state
unfolding draw
draw-wraps state = ap (λ n. n / 16777216) (next_state-wraps state)

pub length-drawn : (n state : ℕ) → length (drawn n state) ≡ n
unfolding drawn
length-drawn zero state = refl
length-drawn (suc n) state = ap (λ k. suc k) (length-drawn n (next_state state))

-- a draw after n others
drawn-suc : (n state : ℕ) → drawn (suc n) state ≡ drawn n state ++ draw (state_after n state) ∷ []
unfolding drawn state_after
drawn-suc zero state = refl
drawn-suc (suc n) state = ap (λ bytes. draw state ∷ bytes) (drawn-suc n (next_state state))

pub drawn-more : (n state : ℕ) → drawn (n + 1) state ≡ drawn n state ++ draw (state_after n state) ∷ []
drawn-more n state = ap (λ k. drawn k state) (add-one n) ∙ drawn-suc n state

state_after-suc : (n state : ℕ) → state_after (suc n) state ≡ next_state (state_after n state)
unfolding state_after
state_after-suc zero state = refl
state_after-suc (suc n) state = state_after-suc n (next_state state)

pub state_after-more : (n state : ℕ) → state_after (n + 1) state ≡ next_state (state_after n state)
state_after-more n state = ap (λ k. state_after k state) (add-one n) ∙ state_after-suc n state

pub drawn-none : (state : ℕ) → drawn 0 state ≡ []
unfolding drawn
drawn-none state = refl

pub state_after-none : (state : ℕ) → state_after 0 state ≡ state
unfolding state_after
state_after-none state = refl

-- one draw more, put behind those before
pub draws_step : (seed n state state' byte : ℕ) (bytes : List ℕ) → n < length bytes → take n bytes ≡ drawn n seed → state ≡ state_after n seed
    → byte ≡ draw state → state' ≡ next_state state
    → (take (n + 1) (set bytes n byte) ≡ drawn (n + 1) seed) × (state' ≡ state_after (n + 1) seed)
draws_step seed n state state' byte bytes within filled state_is byte_is next_is = (
  take_more_set bytes n byte within ∙ ap (λ front. front ++ byte ∷ []) filled
      ∙ ap (λ b. drawn n seed ++ b ∷ []) (byte_is ∙ ap draw state_is)
      ∙ sym (drawn-more n seed),
  next_is ∙ ap next_state state_is ∙ sym (state_after-more n seed),
)
