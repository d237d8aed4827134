-- Agreement is reflexive and goes on.
use Rattle.std.proofs.Common.{◌≡◌, ℕ, ◌<◌, ◌^◌, List, [], ◌++◌, refl, sym, ap, ◌∙◌, subst, arith, append_assoc, append-nil}
use Rattle.machine_model.specs.Worlds.{More, Undefined, Outside, NoRoom, ExternalCall, IsPrefix}
use Rattle.meaning_model.specs.Buffers.{Heap}
use Rattle.meaning_model.specs.Meaning.{Result, End, Done, Stops, structured, need_of}
use Rattle.form_model.specs.Decoding.{functions_of}
use Rattle.plain_tree.specs.Ops.{module_tree}
use Rattle.sound_model.specs.Agreement.{AgreementsJoin, AgreesWithItself, KeptBy}

prefix_of : (xs : List ExternalCall) → IsPrefix xs xs
prefix_of xs = record { rest = []; is = sym (append-nil xs) }

prefix_on : (xs ys zs : List ExternalCall) → IsPrefix xs ys → IsPrefix ys zs → IsPrefix xs zs
prefix_on xs ys zs p q = record { rest = p.rest ++ q.rest; is = q.is ∙ ap (λ l. l ++ q.rest) p.is ∙ append_assoc xs p.rest q.rest }

-- a run is kept by the runs among which it is
kept_itself : (run : ℕ → Result Heap) (n : ℕ) (e : End) → (run n).end ≡ e → KeptBy run (run n) e
kept_itself run n (Done zs) is = (n, is, refl, omega arith)
kept_itself run n (Stops More) is = (n, is, prefix_of (run n).trace, omega arith)
kept_itself run n (Stops Undefined) is = tt
kept_itself run n (Stops Outside) is = tt
kept_itself run n (Stops NoRoom) is = tt

kept_on : (run next : ℕ → Result Heap) (r : Result Heap) (e : End) → need_of r < 2 ^ 48 → KeptBy run r e → ((m : ℕ) → need_of (run m) < 2 ^ 48 → KeptBy next (run m) (run m).end) → KeptBy next r e
kept_on run next r (Done zs) small h again =
    let k = subst (KeptBy next (run h.0)) h.1 (again h.0 (omega (arith, small, h.3))) in
    (k.0, k.1, k.2 ∙ h.2, omega (arith, k.3, h.3))
kept_on run next r (Stops More) small h again =
    let k = subst (KeptBy next (run h.0)) h.1 (again h.0 (omega (arith, small, h.3))) in
    (k.0, k.1, prefix_on r.trace (run h.0).trace (next k.0).trace h.2 k.2, omega (arith, k.3, h.3))
kept_on run next r (Stops Undefined) small h again = tt
kept_on run next r (Stops Outside) small h again = tt
kept_on run next r (Stops NoRoom) small h again = tt

pub agrees_with_itself : AgreesWithItself
agrees_with_itself bits m name args answers n small =
    kept_itself (λ j. structured (functions_of bits (module_tree m)) name args answers j) n (structured (functions_of bits (module_tree m)) name args answers n).end refl

pub agreements_join : AgreementsJoin
agreements_join bits a b c first second name args answers n small =
    kept_on (λ j. structured (functions_of bits (module_tree b)) name args answers j) (λ j. structured (functions_of bits (module_tree c)) name args answers j)
    (structured (functions_of bits (module_tree a)) name args answers n) (structured (functions_of bits (module_tree a)) name args answers n).end small
    (first name args answers n small) (λ m less. second name args answers m less)
