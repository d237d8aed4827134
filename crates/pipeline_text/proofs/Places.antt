-- The token before the first that does not fit.
use Rattle.std.proofs.Common.{◌≡◌, suc, ◌-◌, ◌<◌, List, [], ◌∷◌, ◌++◌, length, take, get_or, Some, refl, arith}
use Rattle.std.proofs.lemmas.List.{length-append}
use Rattle.std.proofs.Math.Seq.{take-append_seam}
use Rattle.pipeline_text.specs.declared.token.Token.{Token}
use Rattle.pipeline_text.specs.Reading.{last_kind}

pub last_get : (ts : List Token) (d : Token) → 0 < length ts → last_kind ts ≡ Some (get_or ts (length ts - 1) d).kind
last_get [] d h = absurd (omega arith)
last_get (t ∷ []) d h = refl
last_get (t ∷ u ∷ ts) d h =
    let place : length (t ∷ u ∷ ts) - 1 ≡ suc (length (u ∷ ts) - 1) = omega arith in
    rw place (last_get (u ∷ ts) d (omega arith))

pub front_of : (ts front rest : List Token) → ts ≡ front ++ rest → take (length ts - length rest) ts ≡ front
front_of ts front rest whole =
    let count : length (front ++ rest) - length rest ≡ length front = omega (arith, length-append front rest) in
    rw (whole, count, take-append_seam front rest) refl
