-- What one word does to what is due. Assumes nothing.
use Rattle.std.proofs.Common.{◌≡◌, ℕ, zero, suc, ◌+◌, ◌-◌, ◌<◌, true, false, ◌⊎◌, List, [], ◌∷◌, ◌++◌, length, take, drop, sym, refl, ap, ◌∙◌, subst, append_assoc, append-nil, arith, length-append, length-drop, take-append-drop}
use Rattle.std.proofs.lemmas.Grind.{flat_map-append}
use Rattle.std.proofs.lemmas.List.{length-take-le, nil_from_length}
use Rattle.std.proofs.lemmas.Bool.{true≢false, false≢true}
use Rattle.policy_words.specs.Tree.{Formula, Path, words, root, steps, is_path, Whole, Begins, Unfinished}
use Rattle.policy_words.specs.Due.{paths_of, formulas_of, all_steps, all_words, Row, Turns, Stuck, Owes}
use Rattle.policy_words.specs.Tree.Formula.{is, same, has, neg, both, either, at_letter, at_name, bind, some}
use Rattle.policy_words.specs.Tree.Path.{forward, backward, seq, plus, stay}
use Rattle.policy_words.specs.declared.word.Word.{Word}
use Rattle.policy_words.specs.declared.word.Word.TheVariants as W

-- the trees under a formula, and the first word of a path and the paths under it
abbrev pub paths_under : Formula → List Path
paths_under (is n) = []
paths_under (same v) = []
paths_under (has m) = []
paths_under (neg f) = []
paths_under (both f g) = []
paths_under (either f g) = []
paths_under (at_letter v f) = []
paths_under (at_name n f) = []
paths_under (bind v f) = []
paths_under (some p f) = p ∷ []

abbrev pub under : Formula → List Formula
under (is n) = []
under (same v) = []
under (has m) = []
under (neg f) = f ∷ []
under (both f g) = f ∷ g ∷ []
under (either f g) = f ∷ g ∷ []
under (at_letter v f) = f ∷ []
under (at_name n f) = f ∷ []
under (bind v f) = f ∷ []
under (some p f) = f ∷ []

abbrev pub root_p : Path → Word
root_p (forward l) = W.Forward l
root_p (backward l) = W.Backward l
root_p (seq p t) = W.Seq
root_p (plus p) = W.Plus
root_p stay = W.Stay

abbrev pub under_p : Path → List Path
under_p (forward l) = []
under_p (backward l) = []
under_p (seq p t) = p ∷ t ∷ []
under_p (plus p) = p ∷ []
under_p stay = []

pub record Node (f : Formula) : Type 0 where
  pub writes : words f ≡ root f ∷ all_steps (paths_under f) ++ all_words (under f)
  pub formula : is_path (root f) ≡ false
  pub takes_paths : length (paths_under f) ≡ paths_of (root f)
  pub takes : length (under f) ≡ formulas_of (root f)

pub node : (f : Formula) → Node f
node (is n) = record { writes = refl; formula = refl; takes_paths = refl; takes = refl }
node (same v) = record { writes = refl; formula = refl; takes_paths = refl; takes = refl }
node (has m) = record { writes = refl; formula = refl; takes_paths = refl; takes = refl }
node (neg f) = record { writes = simp append-nil; formula = refl; takes_paths = refl; takes = refl }
node (both f g) = record { writes = simp append-nil; formula = refl; takes_paths = refl; takes = refl }
node (either f g) = record { writes = simp append-nil; formula = refl; takes_paths = refl; takes = refl }
node (at_letter v f) = record { writes = simp append-nil; formula = refl; takes_paths = refl; takes = refl }
node (at_name n f) = record { writes = simp append-nil; formula = refl; takes_paths = refl; takes = refl }
node (bind v f) = record { writes = simp append-nil; formula = refl; takes_paths = refl; takes = refl }
node (some p f) = record { writes = simp append-nil; formula = refl; takes_paths = refl; takes = refl }

pub record NodeP (p : Path) : Type 0 where
  pub writes : steps p ≡ root_p p ∷ all_steps (under_p p)
  pub path : is_path (root_p p) ≡ true
  pub takes : length (under_p p) ≡ paths_of (root_p p)

pub node_p : (p : Path) → NodeP p
node_p (forward l) = record { writes = refl; path = refl; takes = refl }
node_p (backward l) = record { writes = refl; path = refl; takes = refl }
node_p (seq p t) = record { writes = simp append-nil; path = refl; takes = refl }
node_p (plus p) = record { writes = simp append-nil; path = refl; takes = refl }
node_p stay = record { writes = refl; path = refl; takes = refl }

-- a list of a known short length
pub len1 : {X : Type 0} (xs : List X) → length xs ≡ 1 → (x : X) × (xs ≡ x ∷ [])
len1 [] e = absurd (omega arith)
len1 (x ∷ xs) e = (x, ap (λ l. x ∷ l) (nil_from_length xs (omega arith)))

pub len2 : {X : Type 0} (xs : List X) → length xs ≡ 2 → (x : X) × (y : X) × (xs ≡ x ∷ y ∷ [])
len2 [] e = absurd (omega arith)
len2 (x ∷ xs) e = let q = len1 xs (omega arith) in (x, q.0, ap (λ l. x ∷ l) q.1)

to_p : (w : Word) (ps qs : List Path) (t : List Word) → ps ≡ qs → t ≡ w ∷ all_steps qs → t ≡ w ∷ all_steps ps
to_p w ps qs t p h = h ∙ sym (ap (λ l. w ∷ all_steps l) p)

make_p : (w : Word) → is_path w ≡ true → (ps : List Path) → length ps ≡ paths_of w → (p : Path) × (steps p ≡ w ∷ all_steps ps)
make_p (W.Name n) h ps e = absurd (false≢true h)
make_p (W.Letter v) h ps e = absurd (false≢true h)
make_p (W.Mark m) h ps e = absurd (false≢true h)
make_p W.Not h ps e = absurd (false≢true h)
make_p W.And h ps e = absurd (false≢true h)
make_p W.Or h ps e = absurd (false≢true h)
make_p (W.AtLetter v) h ps e = absurd (false≢true h)
make_p (W.AtName n) h ps e = absurd (false≢true h)
make_p (W.Bind v) h ps e = absurd (false≢true h)
make_p W.Follow h ps e = absurd (false≢true h)
make_p (W.Forward l) h ps e = (forward l, to_p _ _ _ _ (nil_from_length ps e) refl)
make_p (W.Backward l) h ps e = (backward l, to_p _ _ _ _ (nil_from_length ps e) refl)
make_p W.Seq h ps e = let q = len2 ps e in (seq q.0 q.1, to_p _ _ _ _ q.2 (simp append-nil))
make_p W.Plus h ps e = let q = len1 ps e in (plus q.0, to_p _ _ _ _ q.1 (simp append-nil))
make_p W.Stay h ps e = (stay, to_p _ _ _ _ (nil_from_length ps e) refl)

to : (w : Word) (ps qs : List Path) (fs gs : List Formula) (t : List Word) → ps ≡ qs → fs ≡ gs → t ≡ w ∷ all_steps qs ++ all_words gs → t ≡ w ∷ all_steps ps ++ all_words fs
to w ps qs fs gs t p q h = h ∙ sym (λ i. w ∷ all_steps (p i) ++ all_words (q i))

make : (w : Word) → is_path w ≡ false → (ps : List Path) (fs : List Formula) → length ps ≡ paths_of w → length fs ≡ formulas_of w → (f : Formula) × (words f ≡ w ∷ all_steps ps ++ all_words fs)
make (W.Name n) h ps fs e d = (is n, to _ _ _ _ _ _ (nil_from_length ps e) (nil_from_length fs d) refl)
make (W.Letter v) h ps fs e d = (same v, to _ _ _ _ _ _ (nil_from_length ps e) (nil_from_length fs d) refl)
make (W.Mark m) h ps fs e d = (has m, to _ _ _ _ _ _ (nil_from_length ps e) (nil_from_length fs d) refl)
make W.Not h ps fs e d = let q = len1 fs d in (neg q.0, to _ _ _ _ _ _ (nil_from_length ps e) q.1 (simp append-nil))
make W.And h ps fs e d = let q = len2 fs d in (both q.0 q.1, to _ _ _ _ _ _ (nil_from_length ps e) q.2 (simp append-nil))
make W.Or h ps fs e d = let q = len2 fs d in (either q.0 q.1, to _ _ _ _ _ _ (nil_from_length ps e) q.2 (simp append-nil))
make (W.AtLetter v) h ps fs e d = let q = len1 fs d in (at_letter v q.0, to _ _ _ _ _ _ (nil_from_length ps e) q.1 (simp append-nil))
make (W.AtName n) h ps fs e d = let q = len1 fs d in (at_name n q.0, to _ _ _ _ _ _ (nil_from_length ps e) q.1 (simp append-nil))
make (W.Bind v) h ps fs e d = let q = len1 fs d in (bind v q.0, to _ _ _ _ _ _ (nil_from_length ps e) q.1 (simp append-nil))
make W.Follow h ps fs e d = let p = len1 ps e in let q = len1 fs d in (some p.0 q.0, to _ _ _ _ _ _ p.1 q.1 (simp append-nil))
make (W.Forward l) h ps fs e d = absurd (true≢false h)
make (W.Backward l) h ps fs e d = absurd (true≢false h)
make W.Seq h ps fs e d = absurd (true≢false h)
make W.Plus h ps fs e d = absurd (true≢false h)
make W.Stay h ps fs e d = absurd (true≢false h)

-- a list that begins is one of its parts
pub heads : {X : Type 0} (x y : X) (xs ys : List X) → x ∷ xs ≡ y ∷ ys → (x ≡ y) × (xs ≡ ys)
heads x y xs ys e = (cc, cc)

pub no_cons : {X : Type 0} (x : X) (xs : List X) → x ∷ xs ≡ [] → ⊥
no_cons x xs e = let z : ◌≡◌ {A = ℕ} 0 1 = cc in omega arith

-- a path that begins with w
starts_path : (w : Word) (rest more : List Word) (p : Path) → w ∷ rest ≡ steps p ++ more → (w ≡ root_p p) × (rest ≡ all_steps (under_p p) ++ more)
starts_path w rest more p e = heads _ _ _ _ (e ∙ ap (λ l. l ++ more) (node_p p).writes)

starts_formula : (w : Word) (rest more : List Word) (f : Formula) → w ∷ rest ≡ words f ++ more → (w ≡ root f) × (rest ≡ (all_steps (paths_under f) ++ all_words (under f)) ++ more)
starts_formula w rest more f e = heads _ _ _ _ (e ∙ ap (λ l. l ++ more) (node f).writes)

-- one path word
pub path_on : (w : Word) (i j : ℕ) (rest : List Word) (ps : List Path) (fs : List Formula) → 0 < i → length ps ≡ i → length fs ≡ j → w ∷ rest ≡ all_steps ps ++ all_words fs → Row (i - 1 + paths_of w) j rest
path_on w i j rest [] fs lt a b e = absurd (omega arith)
path_on w i j rest (p ∷ ps) fs lt a b e =
    let q = starts_path w rest (all_steps ps ++ all_words fs) p (e ∙ append_assoc (steps p) (all_steps ps) (all_words fs)) in (
      under_p p ++ ps,
      fs,
      omega (arith, length-append (under_p p) ps, (node_p p).takes, ap paths_of q.0),
      b,
      q.1 ∙ sym (append_assoc (all_steps (under_p p)) (all_steps ps) (all_words fs)) ∙ sym (ap (λ l. l ++ all_words fs) (flat_map-append steps (under_p p) ps)),
    )

pub path_back : (w : Word) (i j : ℕ) (rest : List Word) → is_path w ≡ true → 0 < i → Row (i - 1 + paths_of w) j rest → Row i j (w ∷ rest)
path_back w i j rest h lt r =
    let ps = r.0 in
    let n = paths_of w in
    let m = make_p w h (take n ps) (length-take-le n ps (omega (arith, r.2))) in
    let whole = sym (flat_map-append steps (take n ps) (drop n ps)) ∙ ap all_steps (take-append-drop n ps) in (
      m.0 ∷ drop n ps,
      r.1,
      omega (arith, length-drop n ps, r.2),
      r.3,
      sym (ap (λ l. (l ++ all_steps (drop n ps)) ++ all_words r.1) m.1 ∙ ap (λ l. w ∷ l ++ all_words r.1) whole ∙ ap (λ l. w ∷ l) (sym r.4)),
    )

-- one formula word
pub formula_on : (w : Word) (j : ℕ) (rest : List Word) (ps : List Path) (fs : List Formula) → 0 < j → length ps ≡ 0 → length fs ≡ j → w ∷ rest ≡ all_steps ps ++ all_words fs → Row (paths_of w) (j - 1 + formulas_of w) rest
formula_on w j rest (p ∷ ps) fs lt a b e = absurd (omega arith)
formula_on w j rest [] [] lt a b e = absurd (omega arith)
formula_on w j rest [] (f ∷ fs) lt a b e =
    let q = starts_formula w rest (all_words fs) f e in (
      paths_under f,
      under f ++ fs,
      (node f).takes_paths ∙ sym (ap paths_of q.0),
      omega (arith, length-append (under f) fs, (node f).takes, ap formulas_of q.0),
      q.1 ∙ append_assoc (all_steps (paths_under f)) (all_words (under f)) (all_words fs) ∙ sym (ap (λ l. all_steps (paths_under f) ++ l) (flat_map-append words (under f) fs)),
    )

pub formula_back : (w : Word) (j : ℕ) (rest : List Word) → is_path w ≡ false → 0 < j → Row (paths_of w) (j - 1 + formulas_of w) rest → Row 0 j (w ∷ rest)
formula_back w j rest h lt r =
    let ps = r.0 in
    let fs = r.1 in
    let n = formulas_of w in
    let m = make w h ps (take n fs) r.2 (length-take-le n fs (omega (arith, r.3))) in
    let whole = sym (flat_map-append words (take n fs) (drop n fs)) ∙ ap all_words (take-append-drop n fs) in (
      [],
      m.0 ∷ drop n fs,
      refl,
      omega (arith, length-drop n fs, r.3),
      sym (ap (λ l. l ++ all_words (drop n fs)) m.1 ∙ append_assoc (w ∷ all_steps ps) (all_words (take n fs)) (all_words (drop n fs)) ∙ ap (λ l. w ∷ all_steps ps ++ l) whole ∙ ap (λ l. w ∷ l) (sym r.4)),
    )

-- a word of the other kind
pub no_path : (w : Word) (j : ℕ) (rest : List Word) (ps : List Path) (fs : List Formula) → is_path w ≡ true → length ps ≡ 0 → w ∷ rest ≡ all_steps ps ++ all_words fs → ⊥
no_path w j rest (p ∷ ps) fs h a e = absurd (omega arith)
no_path w j rest [] [] h a e = no_cons w rest e
no_path w j rest [] (f ∷ fs) h a e = true≢false (sym h ∙ ap is_path (starts_formula w rest (all_words fs) f e).0 ∙ (node f).formula)

pub no_formula : (w : Word) (i j : ℕ) (rest : List Word) (ps : List Path) (fs : List Formula) → is_path w ≡ false → (0 < i) ⊎ (j ≡ 0) → length ps ≡ i → length fs ≡ j → w ∷ rest ≡ all_steps ps ++ all_words fs → ⊥
no_formula w i j rest (p ∷ ps) fs h o a b e = false≢true (sym h ∙ ap is_path (starts_path w rest (all_steps ps ++ all_words fs) p (e ∙ append_assoc (steps p) (all_steps ps) (all_words fs))).0 ∙ (node_p p).path)
no_formula w i j rest [] [] h o a b e = no_cons w rest e
no_formula w i j rest [] (f ∷ fs) h o a b e = absurd (omega arith)

pub path_turns : (w : Word) (i j m : ℕ) → is_path w ≡ true → 0 < i → m ≡ i - 1 + paths_of w → Turns w i j m j
path_turns w i j m h lt e rest = (
  λ r. subst (λ k. Row k j rest) (sym e) (path_on w i j rest r.0 r.1 lt r.2 r.3 r.4),
  λ r. path_back w i j rest h lt (subst (λ k. Row k j rest) e r),
)

pub formula_turns : (w : Word) (i j m n : ℕ) → is_path w ≡ false → i ≡ 0 → 0 < j → m ≡ paths_of w → n ≡ j - 1 + formulas_of w → Turns w i j m n
formula_turns w i j m n h z lt e d rest = (
  λ r. subst (λ k. Row k n rest) (sym e) (subst (λ k. Row (paths_of w) k rest) (sym d) (formula_on w j rest r.0 r.1 lt (r.2 ∙ z) r.3 r.4)),
  λ r. subst (λ k. Row k j (w ∷ rest)) (sym z) (formula_back w j rest h lt (subst (λ k. Row (paths_of w) k rest) d (subst (λ k. Row k n rest) e r))),
)

pub path_stuck : (w : Word) (i j : ℕ) → is_path w ≡ true → i ≡ 0 → Stuck w i j
path_stuck w i j h z rest r = no_path w j rest r.0 r.1 h (r.2 ∙ z) r.4

pub formula_stuck : (w : Word) (i j : ℕ) → is_path w ≡ false → (0 < i) ⊎ (j ≡ 0) → Stuck w i j
formula_stuck w i j h o rest r = no_formula w i j rest r.0 r.1 h o r.2 r.3 r.4

-- at the start one formula is due
only : (ps : List Path) (fs : List Formula) → length ps ≡ 0 → length fs ≡ 1 → Whole (all_steps ps ++ all_words fs)
only ps fs a b = let q = len1 fs b in (q.0, sym (append-nil (words q.0)) ∙ sym (λ i. all_steps (nil_from_length ps a i) ++ all_words (q.1 i)))

pub owes_start : Owes [] 0 1
owes_start rest = (
  λ w. ([], w.0 ∷ [], refl, refl, sym w.1 ∙ sym (append-nil (words w.0))),
  λ r. subst Whole (sym r.4) (only r.0 r.1 r.2 r.3),
)

pub owes_more : (ws : List Word) (w : Word) (i j m n : ℕ) → Owes ws i j → Turns w i j m n → Owes (ws ++ w ∷ []) m n
owes_more ws w i j m n o t rest =
    let same = append_assoc ws (w ∷ []) rest in (
      λ h. (t rest).0 ((o (w ∷ rest)).0 (subst Whole same h)),
      λ r. subst Whole (sym same) ((o (w ∷ rest)).1 ((t rest).1 r)),
    )

-- nothing is due: the words are a policy
pub owes_none : (ws : List Word) (i j : ℕ) → Owes ws i j → i + j ≡ 0 → Whole ws
owes_none ws i j o e = subst Whole (append-nil ws) ((o []).1 ([], [], omega arith, omega arith, refl))

-- something is due: they are not
pub empty_row : (ps : List Path) (fs : List Formula) → [] ≡ all_steps ps ++ all_words fs → (length ps ≡ 0) × (length fs ≡ 0)
empty_row [] [] e = (refl, refl)
empty_row [] (f ∷ fs) e = absurd (no_cons _ _ (sym (e ∙ ap (λ l. l ++ all_words fs) (node f).writes)))
empty_row (p ∷ ps) fs e = absurd (no_cons _ _ (sym (e ∙ append_assoc (steps p) (all_steps ps) (all_words fs) ∙ ap (λ l. l ++ (all_steps ps ++ all_words fs)) (node_p p).writes)))

pub owes_some : (ws : List Word) (i j : ℕ) → Owes ws i j → (i + j ≡ 0 → ⊥) → Whole ws → ⊥
owes_some ws i j o ne w =
    let r = (o []).0 (subst Whole (sym (append-nil ws)) w) in
    let z = empty_row r.0 r.1 r.4 in
    ne (omega (arith, z, r.2, r.3))

-- what is due can always be supplied
stays : (n : ℕ) → (ps : List Path) × (length ps ≡ n)
stays zero = ([], refl)
stays (suc n) = let q = stays n in (stay ∷ q.0, ap suc q.1)

names : (n : ℕ) → (fs : List Formula) × (length fs ≡ n)
names zero = ([], refl)
names (suc n) = let q = names n in (is 0 ∷ q.0, ap suc q.1)

pub owes_begins : (ws : List Word) (i j : ℕ) → Owes ws i j → Begins ws
owes_begins ws i j o =
    let p = stays i in
    let f = names j in
    let w = (o _).1 (p.0, f.0, p.1, f.1, refl) in
    (w.0, all_steps p.0 ++ all_words f.0, w.1)

pub owes_stuck : (ws : List Word) (w : Word) (i j : ℕ) → Owes ws i j → Stuck w i j → Begins (ws ++ w ∷ []) → ⊥
owes_stuck ws w i j o s b = s b.1 ((o (w ∷ b.1)).0 (b.0, b.2 ∙ append_assoc ws (w ∷ []) b.1))

-- some more words are due
more_due : (ws rest : List Word) (f : Formula) → words f ≡ ws ++ rest → (Whole ws → ⊥) → Unfinished ws
more_due ws [] f e n = absurd (n (f, e ∙ append-nil ws))
more_due ws (w ∷ rest) f e n = (f, w, rest, e)

pub owes_unfinished : (ws : List Word) (i j : ℕ) → Owes ws i j → (i + j ≡ 0 → ⊥) → Unfinished ws
owes_unfinished ws i j o ne = let b = owes_begins ws i j o in more_due ws b.1 b.0 b.2 (owes_some ws i j o ne)
