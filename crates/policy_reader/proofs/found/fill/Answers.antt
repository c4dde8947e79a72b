use Rattle.std.proofs.Common.{◌≡◌, ◌<◌, Err, [], ◌∷◌, length, sym, ap, ◌∙◌, subst, arith, length-append}
use Rattle.std.proofs.lemmas.Bool.{eqb-true}
use Rattle.std.proofs.lemmas.List.{map-append}
use Rattle.std.proofs.lemmas.Result.{err_from_is_err_and}
use Rattle.text.specs.Text.{words as text_words}
use Rattle.text.specs.Left.{left, start}
use Rattle.policy_reader.specs.Spell.{Wrong}
use Rattle.policy_reader.specs.Found.{Stops}
use Rattle.policy_reader.proofs.Finding.{bytes, each_push, there, word, place, found}
use Rattle.policy_reader.proofs.found.fill.Goals as goal

pub returns-then-is_full : goal.returns-then-is_full
returns-then-is_full c =
    let whole = ap left c.into_iter-piece-iterator.ensures.into_iter_gives ∙ c.words-piece-items.ensures.value in
    let begins = ap start c.into_iter-piece-iterator.ensures.into_iter_gives ∙ c.words-piece-items.ensures.starts in
    let i = c.loop-piece.invariant in
    let ran = c.loop-piece.yielded_by in
    let ws = text_words c.args.text.now in
    let t = c.in-Some.ensures.steps in
    let n : length c.loop-piece.yielded ≡ 64 = sym i.as_many ∙ eqb-true (length c.loop-piece.words.items) 64 (sym c.if-is_full.ensures.value) in
    found c.args.roll.now c.args.text c.loop-piece.words _ _ _ _ whole begins ran i.few i.as_many i.spelled (there ws _ _ _ whole begins ran _ _ t, n, place ws _ _ _ whole begins ran _ _ t)

pub returns-in_err-read_word : goal.returns-in_err-read_word
returns-in_err-read_word c =
    let whole = ap left c.into_iter-piece-iterator.ensures.into_iter_gives ∙ c.words-piece-items.ensures.value in
    let begins = ap start c.into_iter-piece-iterator.ensures.into_iter_gives ∙ c.words-piece-items.ensures.starts in
    let i = c.loop-piece.invariant in
    let ran = c.loop-piece.yielded_by in
    let ws = text_words c.args.text.now in
    let t = c.in-Some.ensures.steps in
    let p = err_from_is_err_and c.from_residual.result c.from_residual.ensures.1 in
    let fault = c.in_err-read_word.field-0.0 in
    let f = c.in_err-read_word.ensures in
    let room = c.is_full.ensures.value in
    let n : length c.loop-piece.yielded < 64 = grind arith in
    let stops : Stops c.args.roll.now ws (length c.loop-piece.yielded) (Err fault) = (
      there ws _ _ _ whole begins ran _ _ t,
      n,
      f.0 ∙ place ws _ _ _ whole begins ran _ _ t,
      subst (λ b. Wrong c.args.roll.now b fault.cause) (sym (word ws _ _ _ whole begins ran _ _ t)) f.1,
    ) in
    found c.args.roll.now c.args.text c.loop-piece.words _ _ _ _ whole begins ran i.few i.as_many i.spelled (subst (Stops c.args.roll.now ws (length c.loop-piece.yielded)) (sym (p.1 ∙ ap Err p.2)) stops)

pub loop-piece-preserved : goal.loop-piece-preserved
loop-piece-preserved c =
    let p = c.push.ensures in
    let i = c.loop-piece.invariant in
    let room = c.is_full.ensures.value in
    let n : length c.loop-piece.words.items < 64 = grind arith in
    record {
      few = omega (arith, p.len, n);
      as_many = omega (arith, p.len, i.as_many, length-append c.loop-piece.yielded (c.in-Some.piece ∷ []));
      spelled = rw (p.items, map-append) (each_push c.args.roll.now c.loop-piece.words.items (bytes c.loop-piece.yielded) c.in_ok-read_word.field-0 c.in-Some.piece.bytes.now i.spelled c.in_ok-read_word.ensures);
    }
