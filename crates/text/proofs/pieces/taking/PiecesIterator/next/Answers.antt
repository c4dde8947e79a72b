use Rattle.std.proofs.Common.{◌≡◌, ◌+◌, ◌-◌, ◌∷◌, length, take, drop, rules, sym, refl, ap, ◌∙◌, arith, position, eqb, unwrap_or}
use Rattle.std.proofs.lemmas.Iterator.{YieldsList-from_slice}
use Rattle.std.proofs.lemmas.Iterator.Search.{position_from_yields_List}
use Rattle.std.proofs.lemmas.List.{length-take-le, take_rest, drop-drop}
use Rattle.std.proofs.lemmas.List.Quantifiers.{position-Some}
use borrow.Author.Tests.{tests}
use Rattle.text.specs.Text.{pieces}
use Rattle.text.specs.Left.{pieces_from, Took}
use Rattle.text.proofs.Cuts.{cut_at, cut_last, front}
use Rattle.text.proofs.Takes.{goes_on}
use Rattle.text.proofs.pieces.taking.PiecesIterator.next.Goals as goal
use Rattle.text.proofs.pieces.taking.PiecesIterator.next.Goals.{After-position}

-- where the byte comes first in what is left of the text
found : (c : After-position) → c.position.result ≡ position (λ b. eqb b c.args.self.now.part) (take (length c.args.self.now.text.now - c.in_ok-at.at) (drop c.in_ok-at.at c.args.self.now.text.now))
found c = position_from_yields_List (λ b. eqb b c.args.self.now.part) _ _ _ c.position.ensures.ran (YieldsList-from_slice _ c.iter.ensures.rest) (λ x b q k. search (rules, tests))

pub returns-in_default : goal.returns-in_default
returns-in_default c =
    let p = c.args.self.now in
    let t = p.text.now in
    let at = c.in_ok-at.at in
    let rest = take (length t - at) (drop at t) in
    let last = sym (found (goal.at.returns-in_default c).After-position) ∙ c.in_default.is in
    let took : Took p _ _ = record {
      first = ap (pieces_from p.part t) c.in_ok-at.was ∙ ap (pieces p.part) (sym (take_rest t at)) ∙ cut_last p.part rest last;
      place = sym (ap (λ o. unwrap_or o 0) c.in_ok-at.was);
      stands = front (length t - at) (drop at t);
      same = refl;
      further = λ some. absurd (some refl);
    } in
    record { steps = took; goes = goes_on p _ _ took }

pub returns : goal.returns
returns c =
    let p = c.args.self.now in
    let t = p.text.now in
    let at = c.in_ok-at.at in
    let rest = take (length t - at) (drop at t) in
    let end = c.in-Some.end in
    let first = sym (found (goal.at.returns c).After-position) ∙ c.in-Some.is in
    let place = sym (ap (λ o. unwrap_or o 0) c.in_ok-at.was) in
    let on : at + (end + 1) ≡ at + end + 1 = omega arith in
    let there = (position-Some (λ b. eqb b p.part) rest end 0 first).0 in
    let took : Took p _ _ = record {
      first = ap (pieces_from p.part t) c.in_ok-at.was ∙ ap (pieces p.part) (sym (take_rest t at)) ∙ cut_at p.part rest end first
          ∙ ap (λ x. take end rest ∷ pieces p.part x) (ap (drop (end + 1)) (take_rest t at) ∙ drop-drop (end + 1) at t ∙ ap (λ n. drop n t) on);
      place = place;
      stands = ap (take (length (take end rest))) (sym (take_rest t at)) ∙ front end rest;
      same = refl;
      further = λ _. omega (arith, place, length-take-le end rest (omega (arith, there)));
    } in
    record { steps = took; goes = goes_on p _ _ took }
