-- A list book as it is made.
use Rattle.std.proofs.Common.{◌≡◌, ℕ, ◌≤◌, min, Bool, true, false, cond, ltb, [], sym, refl, ap, ◌∙◌, arith}
use Rattle.std.proofs.lemmas.Bool.Decides.{nat_tests}
use Rattle.book.specs.declared.counts.Counts.{Counts}
use Rattle.book.specs.Limits.{within, least, made_counts}
use Rattle.book.specs.Meaning.{Meaning, opened}
use Rattle.book_laws.proofs.Counting.{count3_none}
use Rattle.book_laws.proofs.Moves.{fun_ext3}
use Rattle.list_book.specs.Listed.{listed, Once, Inside, Counted}
use Rattle.list_book.specs.ListBooks.{made_meaning}
use Rattle.list_book.proofs.Times.{times_nil}

-- no tie at all
pub once_nil : Once []
once_nil l f t = omega (arith, times_nil l f t)

unlisted : (l f t : ℕ) → listed [] l f t ≡ false
unlisted l f t = ap (ltb 0) (times_nil l f t)

pub inside_nil : (c : Counts) → Inside c []
inside_nil c l f t = grind (arith, nat_tests, times_nil l f t)

pub counted_nil : (c : Counts) → Counted c [] 0
counted_nil c = sym (count3_none c.labels c.names _ unlisted)

pub limit_is : (c : Counts) (k n limit : ℕ) → k ≡ n → limit ≡ (made_meaning c k).capacity → limit ≡ (made_meaning c n).capacity
limit_is c k n limit e h = h ∙ ap (λ x. (made_meaning c x).capacity) e

pub limit_fits : (c : Counts) (n : ℕ) → (made_meaning c n).capacity ≤ n
limit_fits c n = by (within c)
  where
    by : (w : Bool) → (cond w (opened c (min n 4096)) (opened least 0)).capacity ≤ n
    by true = omega arith
    by false = omega arith

pub made_as : (c k : Counts) (n limit : ℕ) (p : ℕ → ℕ → Bool) → k ≡ made_counts c → limit ≡ (made_meaning c n).capacity → p ≡ (λ _ _. false)
    → ◌≡◌ {A = Meaning} (record { counts = k; capacity = limit; tied = listed []; marked = p }) (made_meaning c n)
made_as c k n limit p counts places none =
    ap (λ x. record { counts = x; capacity = limit; tied = listed []; marked = p }) counts
    ∙ ap (λ x. record { counts = made_counts c; capacity = x; tied = listed []; marked = p }) places
    ∙ ap (λ x. record { counts = made_counts c; capacity = (made_meaning c n).capacity; tied = x; marked = p }) (fun_ext3 unlisted)
    ∙ ap (λ x. record { counts = made_counts c; capacity = (made_meaning c n).capacity; tied = λ _ _ _. false; marked = x }) none
    ∙ by (within c)
  where
    by : (w : Bool) → opened (cond w c least) (cond w (opened c (min n 4096)) (opened least 0)).capacity ≡ cond w (opened c (min n 4096)) (opened least 0)
    by true = refl
    by false = refl
