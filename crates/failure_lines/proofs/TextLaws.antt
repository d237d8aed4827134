-- What stands between quotes.
use Rattle.std.proofs.Common.{◌≡◌, ℕ, ◌+◌, List, [], ◌∷◌, ◌++◌, ap, ◌∙◌, length, take, drop, arith}
use Rattle.std.proofs.Math.Seq.{take-append_seam}
use Rattle.std.proofs.lemmas.List.{length-append}
use Rattle.std.specs.Prelude.{◌-◌, flat_map}
use Rattle.tree_text.specs.NameText.{byte_text, string_text}

-- a text between two quotes, without them
between : (text : List ℕ) → take (length (34 ∷ (text ++ 34 ∷ [])) - 2) (text ++ 34 ∷ []) ≡ text
between text =
    let e : length (34 ∷ (text ++ 34 ∷ [])) - 2 ≡ length text = omega (arith, length-append text (34 ∷ [])) in
    ap (λ n. take n (text ++ 34 ∷ [])) e ∙ take-append_seam text (34 ∷ [])

-- what stands between the quotes of a string
pub inner_of : (name : List ℕ) → take (length (string_text name) - 2) (drop 1 (string_text name)) ≡ flat_map byte_text name
inner_of name = between (flat_map byte_text name)
