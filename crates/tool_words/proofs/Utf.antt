-- Words that are texts.
use Rattle.std.proofs.Common.{◌≡◌, ◌∙◌, ℕ, List, Some, None, Result, Ok, Err, MatchResult, Bool, true, false, refl, sym, ap, ap₂}
use Rattle.std.specs.Prelude.{◌&&◌, not, if◌then◌else◌, option_map}
use Rattle.std.specs.Borrow.{Bor}
use Rattle.std.specs.Result.{result_ok}
use Rattle.std.specs.Str.{IsUtf8, is_utf8}
use Rattle.std.proofs.lemmas.Str.{IsUtf8-from_is_utf8, is_utf8-from_IsUtf8}
use Rattle.tool_words.specs.Words.{is_short, word_or_none}

of_tests : (word : List ℕ) (a b : Bool) → is_short word ≡ a → is_utf8 word ≡ b → word_or_none word ≡ (if not a && b then Some word else None)
of_tests word a b ea eb = ap₂ (λ (x y : Bool). if not x && y then Some word else None) ea eb

pub text_is : {E : Type 0} (X : E → Type 0) (word : List ℕ) (r : Result (Bor (List ℕ)) E) → MatchResult r (λ s. (s.now ≡ word) × IsUtf8 word) (λ e. (¬ (IsUtf8 word)) × X e)
    → is_short word ≡ false → option_map (λ s. s.now) (result_ok r) ≡ word_or_none word
text_is X word (Ok s) h plain = ap Some h.0 ∙ sym (of_tests word false true plain (is_utf8-from_IsUtf8 word h.1))
text_is X word (Err e) h plain = go (is_utf8 word) refl
  where
    go : (b : Bool) → is_utf8 word ≡ b → None ≡ word_or_none word
    go true u = absurd (h.0 (IsUtf8-from_is_utf8 word u))
    go false u = sym (of_tests word false false plain u)
