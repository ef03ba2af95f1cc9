-- Where the last use of a block is.
use Rattle.std.proofs.Common.{◌≡◌, ℕ, suc, ◌-◌, ◌<◌, ◌≤◌, true, false, not, eqb, ltb}
use Rattle.std.proofs.Common.{List}
use Rattle.std.proofs.Common.{[], ◌∷◌, ◌++◌, take, length, reverse, get_or, Some, None}
use Rattle.std.proofs.Common.{refl, sym, ap, subst, ◌∙◌, arith}
use Rattle.std.proofs.lemmas.Bool.{eqb-true, lt-ltb, ltb-true, ltb-false}
use Rattle.std.proofs.lemmas.Bool.{false≢true}
use Rattle.std.proofs.lemmas.List.{length-reverse, reverse-append, reverse-reverse, get_or_at}
use Rattle.std.proofs.lemmas.List.{get_or_append_left, get_or-reverse, get_or_default}
use Rattle.std.proofs.lemmas.Option.{same_Some}
use Rattle.cache_core.proofs.Rising.{has-at}
use Rattle.cache_core.proofs.Nothing.{take_none}
use Rattle.cache_core.proofs.Reuse.{has}
use Rattle.cache_core.proofs.Cases.{by_cases}
use Rattle.marked_list.specs.Uses.{last_in, since}
use Rattle.marked_list.specs.Marks.{covers}

pub reverse-cons : (m : ℕ) (ms : List ℕ) → reverse (m ∷ ms) ≡ reverse ms ++ m ∷ []
reverse-cons m ms = reverse-append (m ∷ []) ms

pub reverse-push : (xs : List ℕ) (b : ℕ) → reverse (xs ++ b ∷ []) ≡ b ∷ reverse xs
reverse-push xs b = reverse-append xs (b ∷ [])

-- the last use has an index, and the block stands there
pub last-there : (ms : List ℕ) (b p : ℕ) → last_in ms b ≡ Some p
    → (p < length ms) × (get_or (reverse ms) p 0 ≡ b)
last-there [] b p e = cc
last-there (m ∷ ms) b p e = by_cases (eqb m b)
    (λ f. let at : length ms ≡ p = same_Some (length ms) p (sym (rw f refl) ∙ e) in (
      omega arith,
      ap (λ l. get_or l p 0) (reverse-cons m ms)
          ∙ get_or_at (reverse ms) m [] 0 p (length-reverse ms ∙ at) ∙ eqb-true m b f,
    ))
    (λ f. let rest = last-there ms b p (sym (rw f refl) ∙ e) in (
      omega (arith, rest.0),
      ap (λ l. get_or l p 0) (reverse-cons m ms)
          ∙ get_or_append_left (reverse ms) (m ∷ []) 0 p (omega (arith, rest.0, length-reverse ms))
          ∙ rest.1,
    ))

-- past the end there is no use
none-past : (ms : List ℕ) (b n : ℕ) → length ms ≤ n → covers n (last_in ms b) ≡ false
none-past [] b n le = refl
none-past (m ∷ ms) b n le = by_cases (eqb m b)
    (λ f. rw f (ap not (lt-ltb (length ms) n (omega arith))))
    (λ f. rw f (none-past ms b n (omega arith)))

-- a block was used from an index on if its last use is there
pub has-since : (ms : List ℕ) (b n : ℕ) → n ≤ length ms
    → has (since n ms) b ≡ covers n (last_in ms b)
has-since [] b n le = ap (λ l. has l b) (take_none (0 - n))
has-since (m ∷ ms) b n le = by_cases (ltb (length ms) n)
    (λ past. let lt = ltb-true (length ms) n past in
    ap (λ k. has (take k (m ∷ ms)) b) (let z : suc (length ms) - n ≡ 0 = omega arith in z)
    ∙ sym (none-past (m ∷ ms) b n (omega arith)))
    (λ inside. let ge = ltb-false (length ms) n inside in
    ap (λ k. has (take k (m ∷ ms)) b)
    (let z : suc (length ms) - n ≡ suc (length ms - n) = omega arith in z)
    ∙ by_cases (eqb m b)
    (λ f. rw f (sym (ap not inside)))
    (λ f. rw f (has-since ms b n ge)))

pub has-get : (xs : List ℕ) (i : ℕ) → i < length xs → has xs (get_or xs i 0) ≡ true
has-get xs i lt = has-at xs (get_or xs i 0) i lt (get_or_default xs i (get_or xs i 0) 0 lt)

-- whether b is in a list does not depend on another block in front
pub has-other : (m b : ℕ) (ms : List ℕ) → eqb m b ≡ false → has (m ∷ ms) b ≡ has ms b
has-other m b ms f = rw f refl

pub last-other : (m b : ℕ) (ms : List ℕ) → eqb m b ≡ false → last_in (m ∷ ms) b ≡ last_in ms b
last-other m b ms f = rw f refl

pub last-same : (m b : ℕ) (ms : List ℕ) → eqb m b ≡ true → last_in (m ∷ ms) b ≡ Some (length ms)
last-same m b ms f = rw f refl

pub has-last : (ms : List ℕ) (b : ℕ) → has ms b ≡ true → (p : ℕ) × (last_in ms b ≡ Some p)
has-last [] b h = absurd (false≢true h)
has-last (m ∷ ms) b h = by_cases (eqb m b)
    (λ f. (length ms, last-same m b ms f))
    (λ f. let rest = has-last ms b (sym (has-other m b ms f) ∙ h) in
    (rest.0, last-other m b ms f ∙ rest.1))

-- what stands at an index was used
pub has-there : (log : List ℕ) (i : ℕ) → i < length log → has (reverse log) (get_or log i 0) ≡ true
has-there log i lt = let ms = reverse log in
    let long : length ms ≡ length log = length-reverse log in
    subst (λ z. has ms z ≡ true)
    (sym (get_or-reverse ms i 0 (omega arith)) ∙ ap (λ l. get_or l i 0) (reverse-reverse log))
    (has-get ms (length ms - 1 - i) (omega arith))

pub none-last : (ms : List ℕ) (b : ℕ) → has ms b ≡ false → last_in ms b ≡ None
none-last [] b h = refl
none-last (m ∷ ms) b h = by_cases (eqb m b)
    (λ f. absurd (false≢true (sym h ∙ rw f refl)))
    (λ f. last-other m b ms f ∙ none-last ms b (sym (has-other m b ms f) ∙ h))
