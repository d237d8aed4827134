-- What the search finds to be reached is reached, and what it doesn't find isn't.
use Rattle.std.proofs.Common.{◌≡◌, ℕ, zero, suc, Bool, true, false, List, [], ◌∷◌, ◌++◌, Some, refl}
use Rattle.std.specs.Prelude.{◌&&◌, if◌then◌else◌}
use Rattle.std.proofs.lemmas.Option.{none-some}
use Rattle.rule_model.specs.Words.{has, AllOf}
use Rattle.rule_model.specs.Search.{all_in, closed, grow, if_all, among_reached}
use Rattle.rule_model.proofs.Numbers.{some_same, and_first, and_second, has_of, all_joined}

grow_one : (P : ℕ → Type 0) (next : ℕ → List ℕ) (n : ℕ) (work seen : List ℕ) (b : Bool)
    → ((m : ℕ) → P m → AllOf P (next m)) → P n → AllOf P work → AllOf P seen
    → AllOf P (if b then work else next n ++ work) × AllOf P (if b then seen else n ∷ seen)
grow_one P next n work seen true step p w s = (w, s)
grow_one P next n work seen false step p w s = (all_joined P (next n) work (step n p) w, (p, s))

grow_all : (P : ℕ → Type 0) (next : ℕ → List ℕ) (room : ℕ) (work seen : List ℕ)
    → ((m : ℕ) → P m → AllOf P (next m)) → AllOf P work → AllOf P seen → AllOf P (grow next room work seen)
grow_all P next zero work seen step w s = s
grow_all P next (suc room) [] seen step w s = s
grow_all P next (suc room) (n ∷ work) seen step w s =
    let both = grow_one P next n work seen (has n seen) step w.0 w.1 s in
    grow_all P next room (if has n seen then work else next n ++ work) (if has n seen then seen else n ∷ seen) step both.0 both.1

-- an answer has the test and the truth
found : (c b d : Bool) → if_all c b ≡ Some d → (c ≡ true) × (b ≡ d)
found true b d e = (refl, some_same b d e)
found false b d e = absurd (none-some d e)

-- what is said to be reached has each property that the starts have and that is passed on
pub is_reached : (P : ℕ → Type 0) (next : ℕ → List ℕ) (starts : List ℕ) (n : ℕ)
    → ((m : ℕ) → P m → AllOf P (next m)) → AllOf P starts → among_reached next starts n ≡ Some true → P n
is_reached P next starts n step s e =
    has_of P n (grow next 1000 starts []) (grow_all P next 1000 starts [] step s tt) (found _ _ true e).1

-- a set with the starts that nothing leaves
pub record Closed (next : ℕ → List ℕ) (starts seen : List ℕ) : Type 0 where
  pub begins : (n : ℕ) → has n starts ≡ true → has n seen ≡ true
  pub stays : (n m : ℕ) → has n seen ≡ true → has m (next n) ≡ true → has m seen ≡ true

among : (ns seen : List ℕ) → all_in ns seen ≡ true → AllOf (λ n. has n seen ≡ true) ns
among [] seen e = tt
among (n ∷ ns) seen e = (and_first _ _ e, among ns seen (and_second _ _ e))

none_left : (next : ℕ → List ℕ) (seen ns : List ℕ) → closed next seen ns ≡ true → AllOf (λ n. (m : ℕ) → has m (next n) ≡ true → has m seen ≡ true) ns
none_left next seen [] e = tt
none_left next seen (n ∷ ns) e =
    (λ m h. has_of (λ k. has k seen ≡ true) m (next n) (among (next n) seen (and_first _ _ e)) h, none_left next seen ns (and_second _ _ e))

-- where the search came to an end it has such a set
pub set_of : (next : ℕ → List ℕ) (starts : List ℕ) (n : ℕ) (b : Bool)
    → among_reached next starts n ≡ Some b → (seen : List ℕ) × Closed next starts seen × (has n seen ≡ b)
set_of next starts n b e =
    let seen : List ℕ = grow next 1000 starts [] in
    let f = found (all_in starts seen && closed next seen seen) (has n seen) b e in (
      seen,
      record {
        begins = λ m h. has_of (λ k. has k seen ≡ true) m starts (among starts seen (and_first _ _ f.0)) h;
        stays = λ k m i h. has_of (λ j. (m : ℕ) → has m (next j) ≡ true → has m seen ≡ true) k seen (none_left next seen seen (and_second _ _ f.0)) i m h;
      },
      f.1,
    )
