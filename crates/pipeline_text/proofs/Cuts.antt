-- A step of cutting a text into tokens.
use Rattle.std.proofs.Common.{◌≡◌, ℕ, ◌+◌, ◌-◌, ◌<◌, ◌≤◌, true, false, List, [], ◌∷◌, ◌++◌, length, take, drop, get_or, refl, add-one, drop-cons, length-drop, append_assoc, arith}
use Rattle.std.proofs.lemmas.List.{take_more, get_or-drop}
use Rattle.pipeline_text.specs.declared.token.Token.{Token}
use Rattle.pipeline_text.specs.Words.{cut, closed, alone, in_word, tokens_of}

-- the tokens, before those of what is left behind the open word, are all of them
pub record IsCutTo (tokens : List Token) (start at : ℕ) (text : List ℕ) : Type 0 where
  pub in_order : start ≤ at
  pub same : tokens ++ cut (take (at - start) (drop start text)) at (drop at text) ≡ tokens_of text

pub none_cut : (text : List ℕ) → IsCutTo [] 0 0 text
unfolding tokens_of
none_cut text = record { in_order = omega arith; same = refl }

word_more : (text : List ℕ) (start at : ℕ) → start ≤ at → at < length text
    → take (at + 1 - start) (drop start text) ≡ take (at - start) (drop start text) ++ get_or text at 0 ∷ []
word_more text start at h k =
    let count : at + 1 - start ≡ (at - start) + 1 = omega arith in
    let room : at - start < length (drop start text) = omega (arith, length-drop start text) in
    let place : start + (at - start) ≡ at = omega arith in
    rw (count, take_more (drop start text) (at - start) 0 room, get_or-drop start text (at - start) 0, place) refl

next_byte : (text : List ℕ) (at : ℕ) → at < length text → drop at text ≡ get_or text at 0 ∷ drop (at + 1) text
next_byte text at k = rw add-one (drop-cons text at 0 k)

-- a byte of a word makes the open word longer
pub cut_more : {tokens : List Token} {start at : ℕ} {text : List ℕ} → IsCutTo tokens start at text → at < length text → in_word (get_or text at 0) ≡ true
    → IsCutTo tokens start (at + 1) text
cut_more {start = start} {at = at} {text = text} so k is = record {
  in_order = omega (arith, so.in_order);
  same = rw (word_more text start at so.in_order k) (rw (next_byte text at k, is) at so.same);
}

none_open : (at : ℕ) (xs : List ℕ) → take (at + 1 - (at + 1)) xs ≡ []
none_open at xs = let none : at + 1 - (at + 1) ≡ 0 = omega arith in rw none refl

-- another byte ends it
pub cut_past : {tokens : List Token} {start at : ℕ} {text : List ℕ} → IsCutTo tokens start at text → at < length text → in_word (get_or text at 0) ≡ false
    → (new : List Token) → new ≡ tokens ++ closed (take (at - start) (drop start text)) at ++ alone at (get_or text at 0) → IsCutTo new (at + 1) (at + 1) text
cut_past {start = start} {at = at} {text = text} so k is new e = record {
  in_order = omega arith;
  same = rw (e, none_open at (drop (at + 1) text)) (rw (append_assoc, append_assoc) (rw append_assoc at (rw (next_byte text at k, is) at so.same)));
}
