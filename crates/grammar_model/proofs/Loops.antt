-- The steps of a loop over pieces: how it begins, goes on and ends.
use Rattle.std.proofs.Common.{◌≡◌, ℕ, zero, suc, true, false, List, [], ◌∷◌, ◌++◌, length, Result, Ok, Err, refl, sym, ◌∙◌, append_assoc}
use Rattle.std.specs.Result.{IsErrAnd}
use Rattle.std.proofs.lemmas.List.{append-nil}
use Rattle.grammar_model.specs.declared.Stop.{Stop}
use Rattle.grammar_model.specs.declared.Stop.TheVariants.{Memory, At}
use Rattle.grammar_model.specs.Syntax.{Syntax, begins, many, many_at, with_front, ◌>>=◌}
use Rattle.grammar_model.specs.Ahead.{IsAhead}
use Rattle.grammar_model.specs.Stopping.{StopsAt, Gives}

with_none : {W X : Type 0} (r : Result (List X × List W) (List W)) → with_front [] r ≡ r
with_none (Ok x) = refl
with_none (Err rest) = refl

-- at the start nothing is found
pub starts_ahead : {W K X : Type 0} {kind : W → K} (s : Syntax kind X) (ts : List W) → IsAhead s [] (length ts) ts ((many s).read ts)
starts_ahead {kind = kind} s ts = record { same = with_none (many_at kind s.starts s.read (length ts) ts) }

-- no piece begins: the loop ends
pub no_more : {W K X : Type 0} {kind : W → K} {s : Syntax kind X} {found : List X} {n : ℕ} {rest : List W} {whole : Result (List X × List W) (List W)}
    → IsAhead s found n rest whole → begins kind s.starts rest ≡ false → whole ≡ Ok (found, rest)
no_more {kind = kind} {s = s} {found = found} {n = n} {rest = rest} ahead none = sym ahead.same ∙ stays n
  where
    stays : (m : ℕ) → with_front found (many_at kind s.starts s.read m rest) ≡ Ok (found, rest)
    stays zero = rw append-nil refl
    stays (suc m) = rw none (rw append-nil refl)

-- no turn is left
pub all_tried : {W K X : Type 0} {kind : W → K} {s : Syntax kind X} {found : List X} {n : ℕ} {rest : List W} {whole : Result (List X × List W) (List W)}
    → IsAhead s found n rest whole → n ≡ zero → whole ≡ Ok (found, rest)
all_tried ahead none = (rw none at (sym ahead.same)) ∙ rw append-nil refl

with_more : {W X : Type 0} (found : List X) (x : X) (r : Result (List X × List W) (List W))
    → with_front (found ++ x ∷ []) r ≡ with_front found (r >>= λ xs. Ok (x ∷ xs.0, xs.1))
with_more found x (Ok xs) = rw append_assoc refl
with_more found x (Err fault) = refl

-- a piece is read: one more is found
pub one_more : {W K X : Type 0} {kind : W → K} {s : Syntax kind X} {found : List X} {n : ℕ} {rest : List W} {whole : Result (List X × List W) (List W)}
    → IsAhead s found n rest whole → begins kind s.starts rest ≡ true → (m : ℕ) → n ≡ suc m → (x : X) (behind : List W) → s.read rest ≡ Ok (x, behind)
    → IsAhead s (found ++ x ∷ []) m behind whole
one_more {kind = kind} {s = s} {found = found} ahead begun m left x behind e =
    record { same = with_more found x (many_at kind s.starts s.read m behind) ∙ (rw (left, begun, e) at ahead.same) }

-- a piece begins, and does not fit
pub ends_early : {W K X : Type 0} {kind : W → K} {s : Syntax kind X} {found : List X} {n : ℕ} {rest : List W} {whole : Result (List X × List W) (List W)}
    → IsAhead s found n rest whole → begins kind s.starts rest ≡ true → (m : ℕ) → n ≡ suc m → (fault : List W) → s.read rest ≡ Err fault → whole ≡ Err fault
ends_early {s = s} ahead begun m left fault e = sym (rw (left, begun, e) at ahead.same)

stops : {W Y Z : Type 0} (all : Z → Y × List W) (r : Result Z (Stop W)) (stop : Stop W) (whole : Result (Y × List W) (List W)) → IsErrAnd r (λ e. e ≡ stop)
    → StopsAt stop whole → Gives all r whole
stops all (Ok x) stop whole is given = absurd is
stops all (Err e) stop whole is given = rw is given

stopped : {W K X : Type 0} {kind : W → K} {s : Syntax kind X} {found : List X} {n : ℕ} {rest : List W} {whole : Result (List X × List W) (List W)}
    → IsAhead s found n rest whole → begins kind s.starts rest ≡ true → (m : ℕ) → n ≡ suc m → (stop : Stop W) → StopsAt stop (s.read rest) → StopsAt stop whole
stopped ahead begun m left Memory given = tt
stopped ahead begun m left (At fault) given = ends_early ahead begun m left fault.now given

-- the same, where the code hands on why the piece stopped
pub stops_early : {W K X Z : Type 0} {kind : W → K} {s : Syntax kind X} {found : List X} {n : ℕ} {rest : List W} {whole : Result (List X × List W) (List W)}
    → IsAhead s found n rest whole → begins kind s.starts rest ≡ true → (m : ℕ) → n ≡ suc m → (stop : Stop W) → StopsAt stop (s.read rest)
    → (all : Z → List X × List W) (r : Result Z (Stop W)) → IsErrAnd r (λ e. e ≡ stop) → Gives all r whole
stops_early {whole = whole} ahead begun m left stop given all r is = stops all r stop whole is (stopped ahead begun m left stop given)
