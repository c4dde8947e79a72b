-- A table against the words that it is made from.
use Rattle.std.proofs.Common.{◌≡◌, ℕ, zero, suc, ◌+◌, ◌-◌, ◌<◌, ◌≤◌, List, [], ◌∷◌, ◌++◌, map, length, get_or, take, drop, sym, refl, ap, ◌∙◌, subst, inl, inr, append_assoc, append-nil, arith, length-append, length-drop}
use Rattle.std.proofs.lemmas.List.{drop_more, drop-drop, drop_at, get_or_append_left, get_or-append_right, ext_get_or, length-take-le, length-map, map-append, get_or-take}
use Rattle.std.proofs.lemmas.Bool.{cases_lt, cases_eq}
use Rattle.policy_words.specs.Tree.{Formula, Path, words, steps}
use Rattle.policy_words.specs.Tree.Formula.{is, same, has, neg, both, either, at_letter, at_name, bind, some}
use Rattle.policy_words.specs.Tree.Path.{forward, backward, seq, plus, stay}
use Rattle.policy_words.specs.declared.word.Word.{Word}
use Rattle.policy_words.specs.declared.word.Word.TheVariants as W
use Rattle.policy_words.proofs.Rows.{heads}
use Rattle.policy.specs.Table.{size, extent, plain, entries, path_entries, words_in, Reads, PathStands, Stands}
use Rattle.policy.specs.Linking.{Tree, write, enter, head, IsEntryAt}
use Rattle.policy.specs.declared.entry.Entry.{Entry}
use Rattle.policy.proofs.Subtrees.{Has, rooted, kids, write_all, enter_all, node, long, past}

-- the words of a table's entries
abbrev word_of : Entry → Word
word_of e = e.word

two_words : (x y : List Entry) (u v : List Word) → map word_of x ≡ u → map word_of y ≡ v → map word_of (x ++ y) ≡ u ++ v
two_words x y u v e d = map-append word_of x y ∙ (λ i. e i ++ d i)

path_words : (p : Path) (k : ℕ) → words_in (path_entries k p) ≡ steps p
path_words (forward l) k = refl
path_words (backward l) k = refl
path_words (seq p t) k = ap (λ l. W.Seq ∷ l) (two_words _ _ _ _ (path_words p (k + 1)) (path_words t (k + 1 + extent p)))
path_words (plus p) k = ap (λ l. W.Plus ∷ l) (path_words p (k + 1))
path_words stay k = refl

pub entries-words : (f : Formula) (k : ℕ) → words_in (entries k f) ≡ words f
entries-words (is n) k = refl
entries-words (same v) k = refl
entries-words (has m) k = refl
entries-words (neg f) k = ap (λ l. W.Not ∷ l) (entries-words f (k + 1))
entries-words (both f g) k = ap (λ l. W.And ∷ l) (two_words _ _ _ _ (entries-words f (k + 1)) (entries-words g (k + 1 + size f)))
entries-words (either f g) k = ap (λ l. W.Or ∷ l) (two_words _ _ _ _ (entries-words f (k + 1)) (entries-words g (k + 1 + size f)))
entries-words (at_letter v f) k = ap (λ l. W.AtLetter v ∷ l) (entries-words f (k + 1))
entries-words (at_name n f) k = ap (λ l. W.AtName n ∷ l) (entries-words f (k + 1))
entries-words (bind v f) k = ap (λ l. W.Bind v ∷ l) (entries-words f (k + 1))
entries-words (some p f) k = ap (λ l. W.Follow ∷ l) (two_words _ _ _ _ (path_words p (k + 1)) (entries-words f (k + 1 + extent p)))

-- so it has as many entries as words
pub entries-length : (f : Formula) (k : ℕ) → length (entries k f) ≡ size f
entries-length f k = sym (length-map (entries k f) word_of) ∙ ap length (entries-words f k)

path_length : (p : Path) (k : ℕ) → length (path_entries k p) ≡ extent p
path_length p k = sym (length-map (path_entries k p) word_of) ∙ ap length (path_words p k)

enter-length : (t : Tree) (k : ℕ) → length (enter k t) ≡ length (write t)
enter-length (inl f) k = entries-length f k
enter-length (inr p) k = path_length p k

abbrev pub none : Entry
none = plain (W.Name 0)

-- at each place of a tree another begins
pub record Part (ws : List Word) (j : ℕ) (es : List Entry) (i : ℕ) : Type 0 where
  pub tree : Tree
  pub rest : List Word
  pub at : Has ws j tree rest
  pub is : get_or es i none ≡ head j tree

abbrev PartOf : ℕ → Type 0
PartOf n = (t : Tree) (k : ℕ) (ws rest : List Word) (j : ℕ) → length (write t) ≤ n → Has ws k t rest → k ≤ j → j < k + length (write t) → Part ws j (enter k t) (j - k)

parts : (n : ℕ) → PartOf n → (ts : List Tree) (k : ℕ) (ws rest : List Word) (j : ℕ) → length (write_all ts) ≤ n → drop k ws ≡ write_all ts ++ rest → k ≤ j → j < k + length (write_all ts) → Part ws j (enter_all k ts) (j - k)
parts n rec [] k ws rest j le h lo hi = absurd (omega arith)
parts n rec (t ∷ ts) k ws rest j le h lo hi =
    let long = length-append (write t) (write_all ts) in
    let at : Has ws k t (write_all ts ++ rest) = h ∙ append_assoc (write t) (write_all ts) rest in
    elim (cases_lt j (k + length (write t))) [
      | inl lt ↦
          let p = rec t k ws (write_all ts ++ rest) j (omega (arith, long)) at lo lt in
          record { tree = p.tree; rest = p.rest; at = p.at; is = get_or_append_left (enter k t) _ none (j - k) (omega (arith, enter-length t k)) ∙ p.is }
      | inr ge ↦
          let p = parts n rec ts (k + length (write t)) ws rest j (omega (arith, long)) (past ws k t (write_all ts ++ rest) at) ge (omega (arith, long)) in
          let same : j - k - length (write t) ≡ j - (k + length (write t)) = omega arith in
          record { tree = p.tree; rest = p.rest; at = p.at; is = get_or-append_right (enter k t) _ (length (write t)) (j - k) none (enter-length t k) (omega arith) ∙ ap (λ i. get_or (enter_all (k + length (write t)) ts) i none) same ∙ p.is }
    ]

part : (n : ℕ) → PartOf n
part zero t k ws rest j le h lo hi = absurd (omega (arith, long t (kids t) refl))
part (suc n) t k ws rest j le h lo hi =
    elim (cases_eq j k) [
      | inl e ↦
          let first : j - k ≡ 0 = omega arith in
          record { tree = t; rest = rest; at = subst (λ m. Has ws m t rest) (sym e) h; is = ap (λ l. get_or l (j - k) none) ((node t).enters k) ∙ ap (λ i. get_or (head k t ∷ enter_all (k + 1) (kids t)) i none) first ∙ ap (λ m. head m t) (sym e) }
      | inr ne ↦
          let size = long t (kids t) refl in
          let s = rooted ws k (get_or ws k (W.Name 0)) (W.Name 0) t rest refl h in
          let p = parts n (part n) (kids t) (k + 1) ws rest j (omega (arith, size)) s.then (omega arith) (omega (arith, size)) in
          let next : j - k ≡ suc (j - (k + 1)) = omega arith in
          record { tree = p.tree; rest = p.rest; at = p.at; is = ap (λ l. get_or l (j - k) none) ((node t).enters k) ∙ ap (λ i. get_or (head k t ∷ enter_all (k + 1) (kids t)) i none) next ∙ p.is }
    ]

-- the part at a place of a whole formula's words
pub part_of : (f : Formula) (ws : List Word) (j : ℕ) → words f ≡ ws → j < length ws → Part ws j (entries 0 f) j
part_of f ws j e lt =
    let p = part (length (words f)) (inl f) 0 ws [] j (omega arith) (sym e ∙ sym (append-nil (words f))) (omega arith) (omega (arith, ap length e)) in
    let same : j ≡ j - 0 = omega arith in
    record { tree = p.tree; rest = p.rest; at = p.at; is = ap (λ i. get_or (entries 0 f) i none) same ∙ p.is }

-- a table whose entries are the first of the trees at their places is the formula's
pub table_is : (f : Formula) (ws : List Word) (table : List Entry) → words f ≡ ws → length ws ≤ length table → ((k : ℕ) → k < length ws → IsEntryAt ws k (get_or table k none)) → take (length ws) table ≡ entries 0 f
table_is f ws table e le h =
    let long : length (take (length ws) table) ≡ length ws = length-take-le (length ws) table le in
    ext_get_or none (take (length ws) table) (entries 0 f) (long ∙ sym (ap length e) ∙ sym (entries-length f 0)) (λ i lt.
    let b : i < length ws = omega (arith, long) in
    let p = part_of f ws i e b in
    get_or-take (length ws) table i none b ∙ (h i b).heads p.tree p.rest p.at ∙ sym p.is)

-- a formula whose entries are in a table stands there
record Opened (es : List Entry) (k : ℕ) (e : Entry) (more : List Entry) : Type 0 where
  reads : Reads es k e
  then : drop (k + 1) es ≡ more

opened : (es : List Entry) (k : ℕ) (e : Entry) (more : List Entry) → drop k es ≡ e ∷ more → Opened es k e more
opened es k e more h =
    let lt : k < length es = omega (arith, length-drop k es, ap length h) in
    let q = heads _ _ _ _ (sym (drop_more es k none lt) ∙ h) in
    record { reads = (lt, q.0); then = q.1 }

behind : (es : List Entry) (k n : ℕ) (x y : List Entry) → drop k es ≡ x ++ y → length x ≡ n → drop (k + n) es ≡ y
behind es k n x y h e = sym (drop-drop n k es) ∙ ap (drop n) h ∙ drop_at x y n e

pub path_stands : (p : Path) (es : List Entry) (k : ℕ) (rest : List Entry) → drop k es ≡ path_entries k p ++ rest → PathStands es k p
path_stands (forward l) es k rest h = (opened es k _ _ h).reads
path_stands (backward l) es k rest h = (opened es k _ _ h).reads
path_stands (seq p t) es k rest h =
    let o = opened es k _ _ h in
    let q = o.then ∙ append_assoc (path_entries (k + 1) p) (path_entries (k + 1 + extent p) t) rest in
    (o.reads, path_stands p es (k + 1) _ q, path_stands t es (k + 1 + extent p) rest (behind es (k + 1) (extent p) _ _ q (path_length p (k + 1))))
path_stands (plus p) es k rest h = let o = opened es k _ _ h in (o.reads, path_stands p es (k + 1) rest o.then)
path_stands stay es k rest h = (opened es k _ _ h).reads

pub stands_in : (f : Formula) (es : List Entry) (k : ℕ) (rest : List Entry) → drop k es ≡ entries k f ++ rest → Stands es k f
stands_in (is n) es k rest h = (opened es k _ _ h).reads
stands_in (same v) es k rest h = (opened es k _ _ h).reads
stands_in (has m) es k rest h = (opened es k _ _ h).reads
stands_in (neg f) es k rest h = let o = opened es k _ _ h in (o.reads, stands_in f es (k + 1) rest o.then)
stands_in (both f g) es k rest h =
    let o = opened es k _ _ h in
    let q = o.then ∙ append_assoc (entries (k + 1) f) (entries (k + 1 + size f) g) rest in
    (o.reads, stands_in f es (k + 1) _ q, stands_in g es (k + 1 + size f) rest (behind es (k + 1) (size f) _ _ q (entries-length f (k + 1))))
stands_in (either f g) es k rest h =
    let o = opened es k _ _ h in
    let q = o.then ∙ append_assoc (entries (k + 1) f) (entries (k + 1 + size f) g) rest in
    (o.reads, stands_in f es (k + 1) _ q, stands_in g es (k + 1 + size f) rest (behind es (k + 1) (size f) _ _ q (entries-length f (k + 1))))
stands_in (at_letter v f) es k rest h = let o = opened es k _ _ h in (o.reads, stands_in f es (k + 1) rest o.then)
stands_in (at_name n f) es k rest h = let o = opened es k _ _ h in (o.reads, stands_in f es (k + 1) rest o.then)
stands_in (bind v f) es k rest h = let o = opened es k _ _ h in (o.reads, stands_in f es (k + 1) rest o.then)
stands_in (some p f) es k rest h =
    let o = opened es k _ _ h in
    let q = o.then ∙ append_assoc (path_entries (k + 1) p) (entries (k + 1 + extent p) f) rest in
    (o.reads, path_stands p es (k + 1) _ q, stands_in f es (k + 1 + extent p) rest (behind es (k + 1) (extent p) _ _ q (path_length p (k + 1))))

pub stands_whole : (f : Formula) (es : List Entry) → es ≡ entries 0 f → Stands es 0 f
stands_whole f es e = stands_in f es 0 [] (e ∙ sym (append-nil (entries 0 f)))
