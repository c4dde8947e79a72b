-- A list of words is that of at most one policy. Assumes nothing.
use Rattle.std.proofs.Common.{◌≡◌, List, [], ◌∷◌, ◌++◌, length, get_or, sym, refl, ap, ◌∙◌, append_assoc, append-nil, arith}
use Rattle.policy_words.specs.Tree.{Formula, Path, words, root, steps}
use Rattle.policy_words.specs.Due.{paths_of, formulas_of, all_steps, all_words}
use Rattle.policy_words.specs.Tree.Formula.{is, same, has, neg, both, either, at_letter, at_name, bind, some}
use Rattle.policy_words.specs.Tree.Path.{forward, backward, seq, plus, stay}
use Rattle.policy_words.specs.declared.word.Word.{Word}
use Rattle.policy_words.specs.declared.word.Word.TheVariants as W
use Rattle.policy_words.proofs.Rows.{paths_under, under, root_p, under_p, node, node_p, heads, no_cons}

-- a tree again from its first word and the trees under it
abbrev remake_p : Word → List Path → Path
remake_p (W.Name n) ps = stay
remake_p (W.Letter v) ps = stay
remake_p (W.Mark m) ps = stay
remake_p W.Not ps = stay
remake_p W.And ps = stay
remake_p W.Or ps = stay
remake_p (W.AtLetter v) ps = stay
remake_p (W.AtName n) ps = stay
remake_p (W.Bind v) ps = stay
remake_p W.Follow ps = stay
remake_p (W.Forward l) ps = forward l
remake_p (W.Backward l) ps = backward l
remake_p W.Seq ps = seq (get_or ps 0 stay) (get_or ps 1 stay)
remake_p W.Plus ps = plus (get_or ps 0 stay)
remake_p W.Stay ps = stay

abbrev remake : Word → List Path → List Formula → Formula
remake (W.Name n) ps fs = is n
remake (W.Letter v) ps fs = same v
remake (W.Mark m) ps fs = has m
remake W.Not ps fs = neg (get_or fs 0 (is 0))
remake W.And ps fs = both (get_or fs 0 (is 0)) (get_or fs 1 (is 0))
remake W.Or ps fs = either (get_or fs 0 (is 0)) (get_or fs 1 (is 0))
remake (W.AtLetter v) ps fs = at_letter v (get_or fs 0 (is 0))
remake (W.AtName n) ps fs = at_name n (get_or fs 0 (is 0))
remake (W.Bind v) ps fs = bind v (get_or fs 0 (is 0))
remake W.Follow ps fs = some (get_or ps 0 stay) (get_or fs 0 (is 0))
remake (W.Forward l) ps fs = is 0
remake (W.Backward l) ps fs = is 0
remake W.Seq ps fs = is 0
remake W.Plus ps fs = is 0
remake W.Stay ps fs = is 0

made_p : (p : Path) → p ≡ remake_p (root_p p) (under_p p)
made_p (forward l) = refl
made_p (backward l) = refl
made_p (seq p t) = refl
made_p (plus p) = refl
made_p stay = refl

made : (f : Formula) → f ≡ remake (root f) (paths_under f) (under f)
made (is n) = refl
made (same v) = refl
made (has m) = refl
made (neg f) = refl
made (both f g) = refl
made (either f g) = refl
made (at_letter v f) = refl
made (at_name n f) = refl
made (bind v f) = refl
made (some p f) = refl

-- nothing that p writes can be read as another path and more
abbrev OneP : Path → Type 0
OneP p = (u : Path) (x y : List Word) → steps p ++ x ≡ steps u ++ y → (p ≡ u) × (x ≡ y)

-- the same of a row of paths, as many
abbrev AllP : List Path → Type 0
AllP ps = (us : List Path) (x y : List Word) → length ps ≡ length us → all_steps ps ++ x ≡ all_steps us ++ y → (ps ≡ us) × (x ≡ y)

none_p : AllP []
none_p [] x y n e = (refl, e)
none_p (u ∷ us) x y n e = absurd (omega arith)

more_p : (p : Path) (ps : List Path) → OneP p → AllP ps → AllP (p ∷ ps)
more_p p ps one all [] x y n e = absurd (omega arith)
more_p p ps one all (u ∷ us) x y n e =
    let first = one u _ _ (sym (append_assoc (steps p) (all_steps ps) x) ∙ e ∙ append_assoc (steps u) (all_steps us) y) in
    let rest = all us x y (omega arith) first.1 in
    ((λ i. first.0 i ∷ rest.0 i), rest.1)

by_p : (p : Path) → AllP (under_p p) → OneP p
by_p p all u x y e =
    let h = heads _ _ _ _ (sym (ap (λ l. l ++ x) (node_p p).writes) ∙ e ∙ ap (λ l. l ++ y) (node_p u).writes) in
    let r = all (under_p u) x y ((node_p p).takes ∙ ap paths_of h.0 ∙ sym (node_p u).takes) h.1 in
    (made_p p ∙ (λ i. remake_p (h.0 i) (r.0 i)) ∙ sym (made_p u), r.1)

pub only_p : (p : Path) → OneP p
only_p (forward l) = by_p (forward l) none_p
only_p (backward l) = by_p (backward l) none_p
only_p (seq p t) = by_p (seq p t) (more_p p (t ∷ []) (only_p p) (more_p t [] (only_p t) none_p))
only_p (plus p) = by_p (plus p) (more_p p [] (only_p p) none_p)
only_p stay = by_p stay none_p

abbrev One : Formula → Type 0
One f = (u : Formula) (x y : List Word) → words f ++ x ≡ words u ++ y → (f ≡ u) × (x ≡ y)

abbrev All : List Formula → Type 0
All fs = (us : List Formula) (x y : List Word) → length fs ≡ length us → all_words fs ++ x ≡ all_words us ++ y → (fs ≡ us) × (x ≡ y)

none : All []
none [] x y n e = (refl, e)
none (u ∷ us) x y n e = absurd (omega arith)

more : (f : Formula) (fs : List Formula) → One f → All fs → All (f ∷ fs)
more f fs one all [] x y n e = absurd (omega arith)
more f fs one all (u ∷ us) x y n e =
    let first = one u _ _ (sym (append_assoc (words f) (all_words fs) x) ∙ e ∙ append_assoc (words u) (all_words us) y) in
    let rest = all us x y (omega arith) first.1 in
    ((λ i. first.0 i ∷ rest.0 i), rest.1)

by : (f : Formula) → AllP (paths_under f) → All (under f) → One f
by f paths all u x y e =
    let h = heads _ _ _ _ (sym (ap (λ l. l ++ x) (node f).writes) ∙ e ∙ ap (λ l. l ++ y) (node u).writes) in
    let p = paths (paths_under u) (all_words (under f) ++ x) (all_words (under u) ++ y) ((node f).takes_paths ∙ ap paths_of h.0 ∙ sym (node u).takes_paths) (sym (append_assoc (all_steps (paths_under f)) (all_words (under f)) x) ∙ h.1 ∙ append_assoc (all_steps (paths_under u)) (all_words (under u)) y) in
    let r = all (under u) x y ((node f).takes ∙ ap formulas_of h.0 ∙ sym (node u).takes) p.1 in
    (made f ∙ (λ i. remake (h.0 i) (p.0 i) (r.0 i)) ∙ sym (made u), r.1)

pub only : (f : Formula) → One f
only (is n) = by (is n) none_p none
only (same v) = by (same v) none_p none
only (has m) = by (has m) none_p none
only (neg f) = by (neg f) none_p (more f [] (only f) none)
only (both f g) = by (both f g) none_p (more f (g ∷ []) (only f) (more g [] (only g) none))
only (either f g) = by (either f g) none_p (more f (g ∷ []) (only f) (more g [] (only g) none))
only (at_letter v f) = by (at_letter v f) none_p (more f [] (only f) none)
only (at_name n f) = by (at_name n f) none_p (more f [] (only f) none)
only (bind v f) = by (bind v f) none_p (more f [] (only f) none)
only (some p f) = by (some p f) (more_p p [] (only_p p) none_p) (more f [] (only f) none)

pub one_tree : (f g : Formula) → words f ≡ words g → f ≡ g
one_tree f g e = (only f g [] [] (append-nil (words f) ∙ e ∙ sym (append-nil (words g)))).0

pub prefix_free : (f g : Formula) (w : Word) (rest : List Word) → words g ≡ words f ++ w ∷ rest → ⊥
prefix_free f g w rest e = no_cons w rest (only f g (w ∷ rest) [] (sym e ∙ sym (append-nil (words g)))).1
