-- The verdict on a request, and the laws of satisfaction on which it rests.
use Rattle.std.specs.Prelude.{◌≡◌, ℕ, ◌<◌, true, List, Ok, Err, codes, Result}
use Rattle.book.specs.Meaning.{Meaning}
use Rattle.book.specs.declared.refusal.RangeRefusal.{RangeRefusal}
use Rattle.book.specs.declared.refusal.RangeRefusal.TheVariants.{OutOfRange}
use Rattle.policy_words.specs.Tree.{Formula}
use Rattle.policy_words.specs.declared.word.Letter.{Letter}
use Rattle.policy.specs.Free.{free, Closed}
use Rattle.policy.specs.Anchor.{Anchored}
use Rattle.policy.specs.Policies.{Means}
use Rattle.policy.specs.declared.policy.Policy.{Policy}
use Rattle.semantics.specs.Satisfaction.{Valuation, value, Somewhere, Holds}
use Rattle.semantics.specs.declared.verdict.Verdict.{Verdict}
use Rattle.semantics.specs.declared.verdict.Verdict.TheVariants.{Open, Closed as Shut}

-- the valuation gives the letters q and r the names of the request
abbrev pub Asks : ℕ → ℕ → Valuation → Type 0
Asks q r g = (g.requester ≡ q) × (g.resource ≡ r)

-- the formula opens the resource r to the requester q: it holds at any name, for q and r
abbrev pub Opens : Meaning → Formula → ℕ → ℕ → Type 0
Opens m f q r = (g : Valuation) × Asks q r g × Somewhere m (Holds m f g)

-- the policy opens the resource r to the requester q: its formula does
abbrev pub PolicyOpens : Meaning → Policy → ℕ → ℕ → Type 0
PolicyOpens m p q r = (f : Formula) × Means p f × Opens m f q r

-- the verdict says whether P: open says that P holds, closed that it does not
abbrev pub Says : Verdict → Type 0 → Type 0
Says Open P = P
Says Shut P = P → ⊥

-- how a verdict is written
abbrev pub verdict_text : Verdict → List ℕ
verdict_text Open = codes "open"
verdict_text Shut = codes "closed"

-- both are names of the book
abbrev pub Named : Meaning → ℕ → ℕ → Type 0
Named m q r = (q < m.counts.names) × (r < m.counts.names)

-- what asking is answered: the verdict, or 1 where one of the two is no name of the book
abbrev pub Judged : Meaning → Policy → ℕ → ℕ → Result Verdict RangeRefusal → Type 0
Judged m p q r (Ok v) = Named m q r × Says v (PolicyOpens m p q r)
Judged m p q r (Err OutOfRange) = Named m q r → ⊥

-- Satisfaction depends only on the letters that are free in the formula: where two valuations agree
-- on these, the formula holds under both at the same names.
abbrev pub FreeLettersDecide : Type 0
FreeLettersDecide = (m : Meaning) (f : Formula) (g h : Valuation) → ((v : Letter) → free v f ≡ true → value g v ≡ value h v) → (s : ℕ) → Holds m f g s → Holds m f h s

-- The verdict on a closed and anchored formula does not depend on the name at which it is judged, nor
-- on the names that the letters a and b stand for.
abbrev pub JudgedAnywhere : Type 0
JudgedAnywhere = (m : Meaning) (f : Formula) (q r : ℕ) → Closed f → Anchored f → (g : Valuation) → Asks q r g → (s : ℕ) → s < m.counts.names → (Opens m f q r → Holds m f g s) × (Holds m f g s → Opens m f q r)

-- No request has two answers.
abbrev pub OneJudgement : Type 0
OneJudgement = (m : Meaning) (p : Policy) (q r : ℕ) (x y : Result Verdict RangeRefusal) → Judged m p q r x → Judged m p q r y → x ≡ y
