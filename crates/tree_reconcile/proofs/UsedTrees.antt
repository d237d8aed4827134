-- The rounds of the definition leave out just the casts that are unused in the end.
use Rattle.std.proofs.Common.{◌≡◌, ℕ, zero, suc, ◌≤◌, Bool, true, false, List, [], ◌∷◌, length, map, refl, sym, ap, ◌∙◌, arith, true≢false}
use Rattle.std.specs.Prelude.{◌||◌, ◌&&◌, not, if◌then◌else◌}
use Rattle.std.specs.List.{list_any}
use Rattle.std.proofs.Math.Path.{fun_ext}
use Rattle.plain_tree.specs.Types.{PlainType}
use Rattle.plain_tree.specs.Ops.{Op, op}
use Rattle.conversion_model.specs.Promises.{BareOp}
use Rattle.conversion_model.specs.Targets.{operands_of}
use Rattle.conversion_model.specs.Uses.{op_without, operations}
use Rattle.conversion_model.specs.Reconciled.{is_cast, is_unused_cast, is_used, unused_left_out}
use Rattle.conversion_model.proofs.Sizes.{op_any_listed, op_inside}
use Rattle.tree_uses.specs.Edited.{edited}
use Rattle.tree_reconcile.specs.Lines.{Line, among, any_used, is_forward, is_result, is_unused, line_of, used_by_others, uses}
use Rattle.tree_reconcile.proofs.Bools.{and_true, any_more, any_none, both_false, both_true, by_cases, clash, not_false, not_true, or_cases, or_false, or_left, or_right}
use Rattle.tree_reconcile.proofs.LineLaws.{kept_lines, lines, lines_kept, lines_listed, moved_line, test_of}
use Rattle.tree_reconcile.proofs.TreeLaws.{map_same, op_same, op_twice, op_whole}
use Rattle.tree_reconcile.proofs.UsedLaws.{Settled, any_among, behind_forward, behind_result, operand_apart, own_result, uses_kept}

-- What holds of the lines that stay

abbrev any_kept : (Line → Bool) → (Line → Bool) → List Line → Bool
any_kept t p ls = list_any (λ l. not (t l) && p l) ls

kept_any : (t p : Line → Bool) → ((l : Line) → p (moved_line (λ v. v) l) ≡ p l) → (ls : List Line) → list_any p (kept_lines (λ v. v) t ls) ≡ any_kept t p ls
kept_any t p same [] = refl
kept_any t p same (l ∷ ls) = by_test (t l) (kept_any t p same ls)
  where
    by_test : (b : Bool) → list_any p (kept_lines (λ v. v) t ls) ≡ any_kept t p ls → list_any p (if b then kept_lines (λ v. v) t ls else moved_line (λ v. v) l ∷ kept_lines (λ v. v) t ls) ≡ ((not b && p l) || any_kept t p ls)
    by_test true e = e
    by_test false e = ap (λ b. b || list_any p (kept_lines (λ v. v) t ls)) (same l) ∙ ap (λ b. p l || b) e

-- none stays, where so many do
none_stays : (t p : Line → Bool) (ls : List Line) → length (kept_lines (λ v. v) t ls) ≤ 0 → any_kept t p ls ≡ false
none_stays t p [] e = refl
none_stays t p (l ∷ ls) e = by_test (t l) e (none_stays t p ls)
  where
    by_test : (b : Bool) → length (if b then kept_lines (λ v. v) t ls else moved_line (λ v. v) l ∷ kept_lines (λ v. v) t ls) ≤ 0 → (length (kept_lines (λ v. v) t ls) ≤ 0 → any_kept t p ls ≡ false) → ((not b && p l) || any_kept t p ls) ≡ false
    by_test true e rest = rest e
    by_test false e rest = absurd (omega (arith, e))

abbrev or_test : (Line → Bool) → (Line → Bool) → Line → Bool
or_test t p l = t l || p l

-- as many stay, or fewer
no_more_stay : (t p : Line → Bool) (ls : List Line) → length (kept_lines (λ v. v) (or_test t p) ls) ≤ length (kept_lines (λ v. v) t ls)
no_more_stay t p [] = omega arith
no_more_stay t p (l ∷ ls) = by_test (t l) (p l) (no_more_stay t p ls)
  where
    by_test : (b c : Bool) → length (kept_lines (λ v. v) (or_test t p) ls) ≤ length (kept_lines (λ v. v) t ls)
        → length (if b || c then kept_lines (λ v. v) (or_test t p) ls else moved_line (λ v. v) l ∷ kept_lines (λ v. v) (or_test t p) ls) ≤ length (if b then kept_lines (λ v. v) t ls else moved_line (λ v. v) l ∷ kept_lines (λ v. v) t ls)
    by_test true c e = e
    by_test false true e = omega (arith, e)
    by_test false false e = omega (arith, e)

fewer_stay : (t p : Line → Bool) (ls : List Line) → any_kept t p ls ≡ true → suc (length (kept_lines (λ v. v) (or_test t p) ls)) ≤ length (kept_lines (λ v. v) t ls)
fewer_stay t p [] e = absurd (true≢false (sym e))
fewer_stay t p (l ∷ ls) e = by_test (t l) (p l) e (no_more_stay t p ls) (fewer_stay t p ls)
  where
    by_test : (b c : Bool) → ((not b && c) || any_kept t p ls) ≡ true → length (kept_lines (λ v. v) (or_test t p) ls) ≤ length (kept_lines (λ v. v) t ls)
        → (any_kept t p ls ≡ true → suc (length (kept_lines (λ v. v) (or_test t p) ls)) ≤ length (kept_lines (λ v. v) t ls))
        → suc (length (if b || c then kept_lines (λ v. v) (or_test t p) ls else moved_line (λ v. v) l ∷ kept_lines (λ v. v) (or_test t p) ls)) ≤ length (if b then kept_lines (λ v. v) t ls else moved_line (λ v. v) l ∷ kept_lines (λ v. v) t ls)
    by_test true c e less rest = rest e
    by_test false true e less rest = omega (arith, less)
    by_test false false e less rest = omega (arith, rest e)

-- Uses by the definition

pub any_listed : (n : ℕ) (os : List (ℕ × Op)) → is_used os n ≡ uses (map line_of (map (λ (x : ℕ × Op). x.1) os)) n
any_listed n [] = refl
any_listed n (o ∷ os) = ap (λ b. among n (operands_of o.1) || b) (any_listed n os)

pub any_mapped : (p : Line → Bool) (os : List (ℕ × Op)) → list_any (λ (x : ℕ × Op). p (line_of x.1)) os ≡ list_any p (map line_of (map (λ (x : ℕ × Op). x.1) os))
any_mapped p [] = refl
any_mapped p (o ∷ os) = ap (λ b. p (line_of o.1) || b) (any_mapped p os)

unused_same : (U : ℕ → Bool) (S : ℕ → ℕ) (t : Op → Bool) (o : Op) → test_of (is_unused U) (edited S t o) ≡ test_of (is_unused U) o
unused_same U S t (op k results operands regions successors) = refl

uses_moved : (v : ℕ) (l : Line) → among v (moved_line (λ u. u) l).operands ≡ among v l.operands
uses_moved v l = ap (among v) (map_same l.operands)

-- The end: none of the lines that stay is unused, so none of them will be

module _ (U : ℕ → Bool) (ls : List Line) (s : Settled U ls) (t : Line → Bool) where
  abbrev cast_uses : List Line → ℕ → Bool
  cast_uses xs v = list_any (λ l. (l.is_cast && not (t l)) && among v l.operands) xs

  others_used : (v : ℕ) → used_by_others ls v ≡ true → U v ≡ true
  others_used v h =
      s.inside v (any_more (λ (l : Line). not l.is_cast && among v l.operands) (λ (l : Line). not (is_unused U l) && among v l.operands) ls
      (λ l g. let parts = and_true (not l.is_cast) (among v l.operands) g in
      both_true (not (is_unused U l)) (among v l.operands) (ap (λ b. not (b && not (any_used U l.results))) (not_true l.is_cast parts.0)) parts.1) h)

  -- what the casts that stay use is used
  casts_used : (xs : List Line) (v : ℕ) → any_kept t (is_unused U) xs ≡ false → ((u : ℕ) → uses_kept (is_unused U) xs u ≡ true → U u ≡ true) → cast_uses xs v ≡ true → U v ≡ true
  casts_used [] v none inside e = absurd (true≢false (sym e))
  casts_used (l ∷ xs) v none inside e =
      let parts = or_false (not (t l) && is_unused U l) (any_kept t (is_unused U) xs) none in
      or_cases ((l.is_cast && not (t l)) && among v l.operands) (cast_uses xs v) e
      (λ h.
      let tests = and_true (l.is_cast && not (t l)) (among v l.operands) h in
      let stays : not (t l) ≡ true = (and_true l.is_cast (not (t l)) tests.0).1 in
      inside v (or_left (not (is_unused U l) && among v l.operands) (uses_kept (is_unused U) xs v)
      (both_true (not (is_unused U l)) (among v l.operands) (not_false (is_unused U l) (sym (ap (λ b. b && is_unused U l) stays) ∙ parts.0)) tests.1)))
      (λ h. casts_used xs v parts.1 (λ u g. inside u (or_right (not (is_unused U l) && among u l.operands) (uses_kept (is_unused U) xs u) g)) h)

  record Ending (W : ℕ → Bool) (xs : List Line) : Type 0 where
    forward : is_forward xs ≡ true
    front : (v : ℕ) → is_result xs v ≡ true → W v ≡ false
    whole : (v : ℕ) → uses_kept t ls v ≡ true → (used_by_others ls v || (W v || cast_uses xs v)) ≡ true
    none : any_kept t (is_unused (uses_kept t ls)) xs ≡ false
    inside : (v : ℕ) → uses_kept (is_unused U) xs v ≡ true → U v ≡ true

  abbrev more_front : (ℕ → Bool) → Line → ℕ → Bool
  more_front W l v = W v || ((l.is_cast && not (t l)) && among v l.operands)

  or_moved : (a b c d : Bool) → (a || (b || (c || d))) ≡ (a || ((b || c) || d))
  or_moved true b c d = refl
  or_moved false true c d = refl
  or_moved false false c d = refl

  next_ending : (W : ℕ → Bool) (l : Line) (xs : List Line) → Ending W (l ∷ xs) → Ending (more_front W l) xs
  next_ending W l xs e = record {
    forward = behind_forward l xs e.forward;
    front = λ v result.
        let all : is_result (l ∷ xs) v ≡ true = behind_result l xs v result in
        both_false (W v) ((l.is_cast && not (t l)) && among v l.operands) (e.front v all)
        (by_cases ((l.is_cast && not (t l)) && among v l.operands)
        (λ h. let tests = and_true (l.is_cast && not (t l)) (among v l.operands) h in
        clash (is_result (l ∷ xs) v) all (operand_apart l xs v e.forward (and_true l.is_cast (not (t l)) tests.0).0 tests.1))
        (λ h. h));
    whole = λ v h. sym (or_moved (used_by_others ls v) (W v) ((l.is_cast && not (t l)) && among v l.operands) (cast_uses xs v)) ∙ e.whole v h;
    none = (or_false (not (t l) && is_unused (uses_kept t ls) l) (any_kept t (is_unused (uses_kept t ls)) xs) e.none).1;
    inside = λ v h. e.inside v (or_right (not (is_unused U l) && among v l.operands) (uses_kept (is_unused U) xs v) h);
  }

  own_value : (W : ℕ → Bool) (l : Line) (xs : List Line) → Ending W (l ∷ xs) → any_kept t (is_unused U) xs ≡ false → l.is_cast ≡ true
      → (v : ℕ) → is_result (l ∷ xs) v ≡ true → uses_kept t ls v ≡ true → U v ≡ true
  own_value W l xs e rest cast v result used =
      or_cases (used_by_others ls v) (W v || cast_uses (l ∷ xs) v) (e.whole v used)
      (others_used v)
      (λ h. or_cases (W v) (cast_uses (l ∷ xs) v) h (λ g. clash (W v) g (e.front v result))
      (λ g. or_cases ((l.is_cast && not (t l)) && among v l.operands) (cast_uses xs v) g
      (λ k. clash (is_result (l ∷ xs) v) result (operand_apart l xs v e.forward cast (and_true (l.is_cast && not (t l)) (among v l.operands) k).1))
      (λ k. casts_used xs v rest (λ u i. e.inside u (or_right (not (is_unused U l) && among u l.operands) (uses_kept (is_unused U) xs u) i)) k)))

  own_line : (W : ℕ → Bool) (l : Line) (xs : List Line) → Ending W (l ∷ xs) → any_kept t (is_unused U) xs ≡ false → (not (t l) && is_unused U l) ≡ false
  own_line W l xs e rest =
      by_cases (not (t l) && is_unused U l)
      (λ h.
      let tests = and_true (not (t l)) (is_unused U l) h in
      let parts = and_true l.is_cast (not (any_used U l.results)) tests.1 in
      let used : is_unused (uses_kept t ls) l ≡ false = sym (ap (λ b. b && is_unused (uses_kept t ls) l) tests.0) ∙ (or_false (not (t l) && is_unused (uses_kept t ls) l) (any_kept t (is_unused (uses_kept t ls)) xs) e.none).0 in
      let any : any_used (uses_kept t ls) l.results ≡ true =
      by_cases (any_used (uses_kept t ls) l.results) (λ g. g)
      (λ g. clash (is_unused (uses_kept t ls) l) (both_true l.is_cast (not (any_used (uses_kept t ls) l.results)) parts.0 (not_false (any_used (uses_kept t ls) l.results) g)) used) in
      clash (any_used U l.results)
      (any_among (uses_kept t ls) U l.results (λ v is g. own_value W l xs e rest parts.0 v (own_result l xs v parts.0 is) g) any)
      (not_true (any_used U l.results) parts.1))
      (λ h. h)

  none_unused : (W : ℕ → Bool) (xs : List Line) → Ending W xs → any_kept t (is_unused U) xs ≡ false
  none_unused W [] e = refl
  none_unused W (l ∷ xs) e =
      let rest : any_kept t (is_unused U) xs ≡ false = none_unused (more_front W l) xs (next_ending W l xs e) in
      both_false (not (t l) && is_unused U l) (any_kept t (is_unused U) xs) (own_line W l xs e rest) rest

  either_use : (xs : List Line) (v : ℕ) → uses_kept t xs v ≡ true → (used_by_others xs v || cast_uses xs v) ≡ true
  either_use [] v e = e
  either_use (l ∷ xs) v e =
      or_cases (not (t l) && among v l.operands) (uses_kept t xs v) e
      (λ h. let parts = and_true (not (t l)) (among v l.operands) h in
      by_cases l.is_cast
      (λ cast. or_right (used_by_others (l ∷ xs) v) (cast_uses (l ∷ xs) v) (or_left ((l.is_cast && not (t l)) && among v l.operands) (cast_uses xs v)
      (both_true (l.is_cast && not (t l)) (among v l.operands) (both_true l.is_cast (not (t l)) cast parts.0) parts.1)))
      (λ other. or_left (used_by_others (l ∷ xs) v) (cast_uses (l ∷ xs) v) (or_left (not l.is_cast && among v l.operands) (used_by_others xs v)
      (both_true (not l.is_cast) (among v l.operands) (not_false l.is_cast other) parts.1))))
      (λ h. or_cases (used_by_others xs v) (cast_uses xs v) (either_use xs v h)
      (λ g. or_left (used_by_others (l ∷ xs) v) (cast_uses (l ∷ xs) v) (or_right (not l.is_cast && among v l.operands) (used_by_others xs v) g))
      (λ g. or_right (used_by_others (l ∷ xs) v) (cast_uses (l ∷ xs) v) (or_right ((l.is_cast && not (t l)) && among v l.operands) (cast_uses xs v) g)))

  pub none_left : is_forward ls ≡ true → any_kept t (is_unused (uses_kept t ls)) ls ≡ false → any_kept t (is_unused U) ls ≡ false
  none_left forward none =
      none_unused (λ v. false) ls (record { forward = forward; front = λ v r. refl; whole = λ v h. either_use ls v h; none = none; inside = s.inside })

-- The rounds on the tree

module _ (f : Op) (bare : BareOp f) (root : is_cast f ≡ false) (U : ℕ → Bool) (s : Settled U (lines f)) (forward : is_forward (lines f) ≡ true) where
  abbrev without : (Line → Bool) → Op
  without t = edited (λ v. v) (test_of t) f

  abbrev Less : (Line → Bool) → Type 0
  Less t = (l : Line) → t l ≡ true → is_unused U l ≡ true

  unused_cast : (V : ℕ → Bool) (l : Line) → is_unused V l ≡ true → l.is_cast ≡ true
  unused_cast V l e = (and_true l.is_cast (not (any_used V l.results)) e).0

  lines_left : (t : Line → Bool) → Less t → lines (without t) ≡ kept_lines (λ v. v) t (lines f)
  lines_left t less =
      lines_kept (λ v. v) t (λ l e. unused_cast U l (less l e)) f bare
      (by_cases (t (line_of f)) (λ h. clash (is_cast f) (unused_cast U (line_of f) (less (line_of f) h)) root) (λ h. h))

  used_now : (t : Line → Bool) → Less t → (v : ℕ) → is_used (operations (without t)) v ≡ uses_kept t (lines f) v
  used_now t less v =
      any_listed v (operations (without t)) ∙ ap (λ ls. uses ls v) (lines_listed (without t) ∙ lines_left t less)
      ∙ kept_any t (λ l. among v l.operands) (uses_moved v) (lines f)

  abbrev now : (Line → Bool) → Line → Bool
  now t = is_unused (uses_kept t (lines f))

  unused_now : (t : Line → Bool) → Less t → list_any (λ (o : ℕ × Op). is_unused_cast (operations (without t)) o.1) (operations (without t)) ≡ any_kept t (now t) (lines f)
  unused_now t less =
      any_mapped (is_unused (is_used (operations (without t)))) (operations (without t))
      ∙ ap (λ (V : ℕ → Bool). list_any (is_unused V) (map line_of (map (λ (x : ℕ × Op). x.1) (operations (without t))))) (fun_ext (used_now t less))
      ∙ ap (list_any (now t)) (lines_listed (without t) ∙ lines_left t less)
      ∙ kept_any t (now t) (λ l. refl) (lines f)

  round_is : (t : Line → Bool) → Less t → op_without (is_unused_cast (operations (without t))) (without t) ≡ without (or_test t (now t))
  round_is t less =
      sym (op_same (op_without (is_unused_cast (operations (without t))) (without t)))
      ∙ ap (λ (V : ℕ → Bool). edited (λ v. v) (test_of (is_unused V)) (without t)) (fun_ext (used_now t less))
      ∙ op_twice (λ v. v) (λ v. v) (test_of t) (test_of (now t)) (unused_same (uses_kept t (lines f)) (λ v. v) (test_of t)) f

  used_more : (t : Line → Bool) → Less t → (v : ℕ) → U v ≡ true → uses_kept t (lines f) v ≡ true
  used_more t less v h =
      any_more (λ (l : Line). not (is_unused U l) && among v l.operands) (λ (l : Line). not (t l) && among v l.operands) (lines f)
      (λ l g. let parts = and_true (not (is_unused U l)) (among v l.operands) g in
      both_true (not (t l)) (among v l.operands)
      (not_false (t l) (by_cases (t l) (λ k. clash (is_unused U l) (less l k) (not_true (is_unused U l) parts.0)) (λ k. k))) parts.1)
      (s.only v h)

  less_now : (t : Line → Bool) → Less t → Less (or_test t (now t))
  less_now t less l e =
      or_cases (t l) (now t l) e (less l)
      (λ h. let parts = and_true l.is_cast (not (any_used (uses_kept t (lines f)) l.results)) h in
      both_true l.is_cast (not (any_used U l.results)) parts.0
      (not_false (any_used U l.results) (by_cases (any_used U l.results)
      (λ g. clash (any_used (uses_kept t (lines f)) l.results)
      (any_more (λ (r : ℕ × PlainType). U r.0) (λ (r : ℕ × PlainType). uses_kept t (lines f) r.0) l.results (λ r k. used_more t less r.0 k) g)
      (not_true (any_used (uses_kept t (lines f)) l.results) parts.1))
      (λ g. g))))

  or_less : (t : Line → Bool) → Less t → (o : Op) → (test_of t o || test_of (is_unused U) o) ≡ test_of (is_unused U) o
  or_less t less o = by_test (t (line_of o)) refl
    where
      by_test : (b : Bool) → t (line_of o) ≡ b → (b || is_unused U (line_of o)) ≡ is_unused U (line_of o)
      by_test true is = sym (less (line_of o) is)
      by_test false is = refl

  -- where none is unused, what is left out is what is unused in the end
  ended : (t : Line → Bool) → Less t → any_kept t (now t) (lines f) ≡ false → without t ≡ without (is_unused U)
  ended t less none =
      let left : any_kept t (is_unused U) (lines f) ≡ false = none_left U (lines f) s t forward none in
      let listed : list_any (λ (x : ℕ × Op). test_of (is_unused U) x.1) (operations (without t)) ≡ false =
      any_mapped (is_unused U) (operations (without t)) ∙ ap (list_any (is_unused U)) (lines_listed (without t) ∙ lines_left t less)
      ∙ kept_any t (is_unused U) (λ l. refl) (lines f) ∙ left in
      let within : op_inside (test_of (is_unused U)) (without t) ≡ false =
      (or_false (op_inside (test_of (is_unused U)) (without t)) false
      (or_false (test_of (is_unused U) (without t)) (op_inside (test_of (is_unused U)) (without t) || false)
      (sym (op_any_listed (test_of (is_unused U)) 0 (without t) []) ∙ listed)).1).0 in
      sym (op_whole (test_of (is_unused U)) (without t) within)
      ∙ op_twice (λ v. v) (λ v. v) (test_of t) (test_of (is_unused U)) (unused_same U (λ v. v) (test_of t)) f
      ∙ ap (λ (x : Op → Bool). edited (λ v. v) x f) (fun_ext (or_less t less))

  by_unused : (room : ℕ) (t : Line → Bool) (less : Less t) → length (kept_lines (λ v. v) t (lines f)) ≤ suc room → (b : Bool) → any_kept t (now t) (lines f) ≡ b
      → ((t : Line → Bool) → Less t → length (kept_lines (λ v. v) t (lines f)) ≤ room → unused_left_out room (without t) ≡ without (is_unused U))
      → elim b [ false ↦ without t | true ↦ unused_left_out room (op_without (is_unused_cast (operations (without t))) (without t)) ] ≡ without (is_unused U)
  by_unused room t less enough false is more = ended t less is
  by_unused room t less enough true is more =
      ap (unused_left_out room) (round_is t less) ∙ more (or_test t (now t)) (less_now t less) (omega (arith, enough, fewer_stay t (now t) (lines f) is))

  rounds : (room : ℕ) (t : Line → Bool) → Less t → length (kept_lines (λ v. v) t (lines f)) ≤ room → unused_left_out room (without t) ≡ without (is_unused U)
  rounds zero t less enough = ended t less (none_stays t (now t) (lines f) enough)
  rounds (suc room) t less enough =
      ap (λ b. elim b [ false ↦ without t | true ↦ unused_left_out room (op_without (is_unused_cast (operations (without t))) (without t)) ]) (unused_now t less)
      ∙ by_unused room t less enough (any_kept t (now t) (lines f)) refl (rounds room)

  all_stay : (ls : List Line) → length (kept_lines (λ v. v) (λ l. false) ls) ≡ length ls
  all_stay [] = refl
  all_stay (l ∷ ls) = omega (arith, all_stay ls)

  at_first : without (λ l. false) ≡ f
  at_first =
      op_whole (λ o. false) f
      (or_false (op_inside (λ o. false) f) false
      (sym (op_any_listed (λ o. false) 0 f []) ∙ any_none (λ (x : ℕ × Op). false) (operations f) (λ x. refl))).0

  -- the tree without the casts that are unused in the end
  pub unused_found : (room : ℕ) → length (lines f) ≤ room → unused_left_out room f ≡ without (is_unused U)
  unused_found room enough =
      ap (unused_left_out room) (sym at_first)
      ∙ rounds room (λ l. false) (λ l e. absurd (true≢false (sym e))) (omega (arith, all_stay (lines f), enough))
