-- What a source has left and a sink holds, read after read and write after write.
use Rattle.std.proofs.Common.{◌≡◌, ℕ, ◌+◌, ◌-◌, ◌<◌, ◌≤◌, List, [], ◌++◌, length, take, drop, Option, None, Some, Result, Ok, Err, IfOk, OnErr, refl, sym, ap, ◌∙◌, subst, arith, append-nil, length-append, take-append-drop}
use Rattle.std.proofs.lemmas.Grind.{common_steps}
use Rattle.std.proofs.Math.Seq.{take-add}
use Rattle.std.specs.Io.KnownBytes.{Consumes, Appends, Keeps, IsAtEnd}
use Rattle.std.proofs.KnownBytes.{Consumes-nil, Consumes-trans, Appends-trans, Appends-kept}
use Rattle.tool_cli.specs.Runs.{IsInput, TakesFront}

-- some bytes are the input
pub some_input : (left : Option (List ℕ)) → (bytes : List ℕ) × IsInput left bytes
some_input None = ([], tt)
some_input (Some left) = (left, refl)

-- what was read up to the end is the input
pub whole_input : (before now : Option (List ℕ)) (text : List ℕ) → Consumes before now text → IsAtEnd now → IsInput before text
whole_input None now text read ended = tt
whole_input (Some left) None text read ended = absurd read
whole_input (Some left) (Some rest) text read ended = read ∙ ap (λ l. text ++ l) ended ∙ append-nil text

-- the input is at least as long as what was read of it
pub long_input : (before now : Option (List ℕ)) (text : List ℕ) (limit : ℕ) → Consumes before now text → limit < length text
    → (bytes : List ℕ) × IsInput before bytes × (limit < length bytes)
long_input None now text limit read long = (text, tt, long)
long_input (Some left) None text limit read long = absurd read
long_input (Some left) (Some rest) text limit read long =
    (left, refl, omega (arith, simp length-append at (ap length read)))

-- a read that gave no bytes found the end, so what was read is the input
pub ended_input : (before now after : Option (List ℕ)) (text into : List ℕ) (count : ℕ) → Consumes before now text → count ≡ 0
    → Consumes now after (take count into) → IsAtEnd after → IsInput before text
ended_input before now after text into count first none then_read ended =
    let nothing : take count into ≡ [] = rw none refl in
    let whole : text ++ take count into ≡ text = rw nothing (append-nil text) in
    let P : List ℕ → Type 0 = λ t. IsInput before t in
    subst P whole (whole_input before after _ (Consumes-trans before now after text (take count into) first then_read) ended)

-- a text of no bytes was read
pub read_none : (before : Option (List ℕ)) (text : List ℕ) → text ≡ [] → Consumes before before text
read_none before text none = let P : List ℕ → Type 0 = λ t. Consumes before before t in subst P (sym none) (Consumes-nil before)

-- one more piece was read
pub read_more : (before now after : Option (List ℕ)) (text piece whole : List ℕ) → Consumes before now text → Consumes now after piece
    → whole ≡ text ++ piece → Consumes before after whole
read_more before now after text piece whole first then_read joined =
    let P : List ℕ → Type 0 = λ t. Consumes before after t in subst P (sym joined) (Consumes-trans before now after text piece first then_read)

-- the bytes from `at` on are all that is left
pub rest_whole : (at : ℕ) (bytes : List ℕ) → take (length bytes - at) (drop at bytes) ≡ drop at bytes
rest_whole at bytes = grind (arith, common_steps)

-- a write took `count` bytes of those from `at` on
pub write_more : (before now after : Option (List ℕ)) (at count : ℕ) (bytes : List ℕ) → Appends before now (take at bytes)
    → Appends now after (take count (take (length bytes - at) (drop at bytes))) → Appends before after (take (at + count) bytes)
write_more before now after at count bytes first then_taken =
    let same : take at bytes ++ take count (take (length bytes - at) (drop at bytes)) ≡ take (at + count) bytes = rw (rest_whole at bytes) (sym (take-add at count bytes)) in
    let P : List ℕ → Type 0 = λ t. Appends before after t in
    subst P same (Appends-trans before now after _ _ first then_taken)

-- a front part was taken, and then nothing more
pub front_taken : (before now after : Option (List ℕ)) (at : ℕ) (bytes : List ℕ) → Appends before now (take at bytes) → Keeps now after
    → TakesFront before after bytes
front_taken before now after at bytes taken kept =
    (take at bytes, drop at bytes, take-append-drop at bytes, Appends-kept before now after _ taken kept)

-- what holds in any case holds at an error
pub at_error : {T E : Type 0} (result : Result T E) (P : Type 0) → P → OnErr result P
at_error (Ok x) P p = tt
at_error (Err e) P p = p

-- an answer at Ok is the one value that it can be
pub at_ok : {T E : Type 0} (result : Result T E) (x : T) (P : T → Type 0) → IfOk result (λ y. y ≡ x) → P x → IfOk result P
at_ok (Ok y) x P same p = subst P (sym same) p
at_ok (Err e) x P same p = tt

-- a turn that brought bytes brought one at least
pub turn_grows : (turns count : ℕ) (text into whole : List ℕ) → turns ≤ length text → (count ≡ 0 → ⊥) → count ≤ length into
    → whole ≡ text ++ take count into → turns + 1 ≤ length whole
turn_grows turns count text into whole before some fits joined = rw joined (grind (arith, common_steps))
