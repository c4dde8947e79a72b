-- The words that were found in a text before the first that is faulty by itself.
use Rattle.std.specs.Prelude.{◌≡◌, ℕ, ◌<◌, ◌≤◌, List, [], length, take, Some, None, Option, Ok, Err, Result, slice_index_or}
use Rattle.text.specs.Text.{words as text_words, start_of}
use Rattle.text.specs.declared.word.WordFault.{WordFault}
use Rattle.roll.specs.declared.roll.Roll.{Roll}
use Rattle.arrayvec.specs.ArrayVec.{array_vec_len}
use Rattle.policy_reader.specs.Spell.{Wrong}
use Rattle.policy_reader.specs.Told.{EachSpells}
use Rattle.policy_reader.specs.declared.fault.Cause.{Cause}
use Rattle.policy_reader.specs.declared.found.Found.{Found}

-- after n words the text is over, has a 65th word, or has a faulty one
abbrev pub Stops : Roll → List (List ℕ) → ℕ → Result (Option ℕ) (WordFault Cause) → Type 0
Stops r ws n (Ok None) = n ≡ length ws
Stops r ws n (Ok (Some at)) = (n < length ws) × (n ≡ 64) × (at ≡ start_of n ws)
Stops r ws n (Err f) = (n < length ws) × (n < 64) × (f.at ≡ start_of n ws) × Wrong r (slice_index_or ws n []) f.cause

-- the words spell the first of the text's words, and end where they are to
pub record Finds (r : Roll) (x : Found) : Type 0 where
  pub few : array_vec_len x.words ≤ 64
  pub within : array_vec_len x.words ≤ length (text_words x.text.now)
  pub spelled : EachSpells r x.words.items (take (array_vec_len x.words) (text_words x.text.now))
  pub stops : Stops r (text_words x.text.now) (array_vec_len x.words) x.stop
