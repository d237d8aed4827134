-- What looks see across turns in which each region that begins ends.
use Rattle.std.proofs.Common.{◌≡◌, ◌⊎◌, inl, inr, ℕ, zero, suc, ◌+◌, ◌-◌, ◌<◌, Bool, true, false, List, [], ◌∷◌, ◌++◌, length, map, Option, Some, None, refl, sym, ap, ◌∙◌, subst, true≢false, arith, append_assoc, length-append}
use Rattle.std.specs.Prelude.{◌==◌, is_some, option_map, if◌then◌else◌}
use Rattle.std.proofs.lemmas.List.{length-map}
use Rattle.mlir_lex.proofs.Lengths.{eqb-is, eqb-refl}
use Rattle.text_events.specs.declared.event.Event.{Event}
use Rattle.text_scopes.specs.declared.steps.Step.{Step}
use Rattle.text_scopes.specs.declared.steps.Step.TheVariants as steps
use Rattle.text_scopes.specs.Seen.{Turn, defined, mirror, or_else, seen, stands_for}
use Rattle.scope_laws.specs.Turns.{Ahead, Back, Level, level_end, level_nest, level_step, Near, RightAhead, RightBack, When, is_flat, pass}

pub pass_append : (before xs ys : List Turn) → pass before (xs ++ ys) ≡ pass (pass before xs) ys
pass_append before [] ys = refl
pass_append before (x ∷ xs) ys = pass_append (x ∷ before) xs ys

pub length_pass : (before xs : List Turn) → length (pass before xs) ≡ length before + length xs
length_pass before [] = omega arith
length_pass before (x ∷ xs) = length_pass (x ∷ before) xs ∙ omega arith

pub level_append : {d : Bool} {xs : List Turn} (ys : List Turn) → Level d xs → Level d ys → Level d (xs ++ ys)
level_append ys (level_end d) h = h
level_append ys (level_step d s e f more) h = level_step d s e f (level_append ys more h)
level_append ys (level_nest d e f {inner} {ts} i more) h =
    subst (λ (zs : List Turn). Level d ((steps.Opens, e) ∷ zs)) (sym (append_assoc inner ((steps.Closes, f) ∷ ts) ys)) (level_nest d e f i (level_append ys more h))

module _ (out : Bool) (name : ℕ) where
  -- Behind regions that are over nothing of them is seen
  deep_step : (d : Bool) (s : Step) (e : Event) (over : ℕ) (before : List Turn) → is_flat d s ≡ true → seen out name (suc over) ((s, e) ∷ before) ≡ seen out name (suc over) before
  deep_step d steps.Opens e over before h = absurd (true≢false (sym h))
  deep_step d steps.Closes e over before h = absurd (true≢false (sym h))
  deep_step d steps.Ends e over before h = absurd (true≢false (sym h))
  deep_step d steps.Defines e over before h = refl
  deep_step d _ e over before h = refl

  pub back_deep : {d : Bool} {xs : List Turn} → Level d xs → (over : ℕ) (before : List Turn) → seen out name (suc over) (pass before xs) ≡ seen out name (suc over) before
  back_deep (level_end d) over before = refl
  back_deep (level_step d s e f more) over before = back_deep more over ((s, e) ∷ before) ∙ deep_step d s e over before f
  back_deep (level_nest d e f {inner} {ts} i more) over before =
      ap (seen out name (suc over)) (pass_append ((steps.Opens, e) ∷ before) inner ((steps.Closes, f) ∷ ts))
      ∙ back_deep more over ((steps.Closes, f) ∷ pass ((steps.Opens, e) ∷ before) inner) ∙ back_deep i (suc over) ((steps.Opens, e) ∷ before)

  mirror_deep : (d : Bool) (s : Step) (e : Event) (over : ℕ) (ahead : List Turn) → is_flat d s ≡ true → seen out name (suc over) (mirror (s, e) ∷ ahead) ≡ seen out name (suc over) ahead
  mirror_deep d steps.Opens e over ahead h = absurd (true≢false (sym h))
  mirror_deep d steps.Closes e over ahead h = absurd (true≢false (sym h))
  mirror_deep d steps.Ends e over ahead h = absurd (true≢false (sym h))
  mirror_deep d steps.Defines e over ahead h = refl
  mirror_deep d _ e over ahead h = refl

  pub ahead_deep : {d : Bool} {xs : List Turn} → Level d xs → (over : ℕ) (ahead : List Turn) → seen out name (suc over) (map mirror (xs ++ ahead)) ≡ seen out name (suc over) (map mirror ahead)
  ahead_deep (level_end d) over ahead = refl
  ahead_deep (level_step d s e {ts} f more) over ahead = mirror_deep d s e over (map mirror (ts ++ ahead)) f ∙ ahead_deep more over ahead
  ahead_deep (level_nest d e f {inner} {ts} i more) over ahead =
      ap (λ zs. seen out name (suc (suc over)) (map mirror zs)) (append_assoc inner ((steps.Closes, f) ∷ ts) ahead) ∙ ahead_deep i (suc over) ((steps.Closes, f) ∷ (ts ++ ahead)) ∙ ahead_deep more over ahead

  -- Found
  found_either : (b : Bool) (n : ℕ) (o : Option ℕ) → is_some o ≡ true → is_some (defined 0 b n o) ≡ true
  found_either true n o h = refl
  found_either false n o h = h

  flat_back : (d : Bool) (s : Step) (e : Event) (before : List Turn) → is_flat d s ≡ true → Back out name before → Back out name ((s, e) ∷ before)
  flat_back d steps.Opens e before f h = absurd (true≢false (sym f))
  flat_back d steps.Closes e before f h = absurd (true≢false (sym f))
  flat_back d steps.Ends e before f h = absurd (true≢false (sym f))
  flat_back d steps.Defines e before f h = found_either (e.name == name) (length before) (seen out name 0 before) h
  flat_back d _ e before f h = h

  -- what is found stays found across such turns
  pub back_flat : {d : Bool} {xs : List Turn} → Level d xs → (before : List Turn) → Back out name before → Back out name (pass before xs)
  back_flat (level_end d) before h = h
  back_flat (level_step d s e f more) before h = back_flat more ((s, e) ∷ before) (flat_back d s e before f h)
  back_flat (level_nest d e f {inner} {ts} i more) before h =
      ap (λ b. is_some (seen out name 0 b)) (pass_append ((steps.Opens, e) ∷ before) inner ((steps.Closes, f) ∷ ts))
      ∙ back_flat more ((steps.Closes, f) ∷ pass ((steps.Opens, e) ∷ before) inner) (ap is_some (back_deep i 0 ((steps.Opens, e) ∷ before)) ∙ h)

  flat_ahead : (d : Bool) (s : Step) (e : Event) (ahead : List Turn) → is_flat d s ≡ true → Ahead out name ahead → Ahead out name ((s, e) ∷ ahead)
  flat_ahead d steps.Opens e ahead f h = absurd (true≢false (sym f))
  flat_ahead d steps.Closes e ahead f h = absurd (true≢false (sym f))
  flat_ahead d steps.Ends e ahead f h = absurd (true≢false (sym f))
  flat_ahead d steps.Defines e ahead f h = found_either (e.name == name) (length (map mirror ahead)) (seen out name 0 (map mirror ahead)) h
  flat_ahead d _ e ahead f h = h

  nest_ahead : (e f : Event) (inner ts ahead : List Turn) → Level true inner → seen out name 0 (map mirror ((steps.Opens, e) ∷ ((inner ++ (steps.Closes, f) ∷ ts) ++ ahead))) ≡ seen out name 0 (map mirror (ts ++ ahead))
  nest_ahead e f inner ts ahead i = ap (λ zs. seen out name 1 (map mirror zs)) (append_assoc inner ((steps.Closes, f) ∷ ts) ahead) ∙ ahead_deep i 0 ((steps.Closes, f) ∷ (ts ++ ahead))

  pub ahead_flat : {d : Bool} {xs : List Turn} → Level d xs → (ahead : List Turn) → Ahead out name ahead → Ahead out name (xs ++ ahead)
  ahead_flat (level_end d) ahead h = h
  ahead_flat (level_step d s e {ts} f more) ahead h = flat_ahead d s e (ts ++ ahead) f (ahead_flat more ahead h)
  ahead_flat (level_nest d e f {inner} {ts} i more) ahead h = ap is_some (nest_ahead e f inner ts ahead i) ∙ ahead_flat more ahead h

  -- a definition of the name
  pub back_here : (e : Event) (before : List Turn) → e.name ≡ name → Back out name ((steps.Defines, e) ∷ before)
  back_here e before same = ap (λ b. is_some (defined 0 b (length before) (seen out name 0 before))) (ap (λ m. m == name) same ∙ eqb-refl name)

  pub ahead_here : (e : Event) (ahead : List Turn) → e.name ≡ name → Ahead out name ((steps.Defines, e) ∷ ahead)
  ahead_here e ahead same = ap (λ b. is_some (defined 0 b (length (map mirror ahead)) (seen out name 0 (map mirror ahead)))) (ap (λ m. m == name) same ∙ eqb-refl name)

  at_definition : {d : Bool} (b : Bool) (e : Event) (before ts ahead : List Turn) → (e.name == name) ≡ b → Level d ts → is_some (defined 0 b (length (map mirror (ts ++ ahead))) (seen out name 0 (map mirror (ts ++ ahead)))) ≡ true
      → (Ahead out name (ts ++ ahead) → Near out name (pass ((steps.Defines, e) ∷ before) ts) ahead) → Near out name (pass ((steps.Defines, e) ∷ before) ts) ahead
  at_definition true e before ts ahead is more h deep = inl (back_flat more ((steps.Defines, e) ∷ before) (back_here e before (eqb-is e.name name is)))
  at_definition false e before ts ahead is more h deep = deep h

  cross_step : (d : Bool) (s : Step) (e : Event) (before ts ahead : List Turn) → is_flat d s ≡ true → Level d ts → Ahead out name ((s, e) ∷ (ts ++ ahead)) → (Ahead out name (ts ++ ahead) → Near out name (pass ((s, e) ∷ before) ts) ahead) → Near out name (pass ((s, e) ∷ before) ts) ahead
  cross_step d steps.Opens e before ts ahead f more h deep = absurd (true≢false (sym f))
  cross_step d steps.Closes e before ts ahead f more h deep = absurd (true≢false (sym f))
  cross_step d steps.Ends e before ts ahead f more h deep = absurd (true≢false (sym f))
  cross_step d steps.Defines e before ts ahead f more h deep = at_definition (e.name == name) e before ts ahead refl more h deep
  cross_step d _ e before ts ahead f more h deep = deep h

  cross : {d : Bool} {xs : List Turn} → Level d xs → (before ahead : List Turn) → Ahead out name (xs ++ ahead) → Near out name (pass before xs) ahead
  cross (level_end d) before ahead h = inr h
  cross (level_step d s e {ts} f more) before ahead h = cross_step d s e before ts ahead f more h (λ k. cross more ((s, e) ∷ before) ahead k)
  cross (level_nest d e f {inner} {ts} i more) before ahead h =
      subst (λ (b : List Turn). Near out name b ahead) (sym (pass_append ((steps.Opens, e) ∷ before) inner ((steps.Closes, f) ∷ ts)))
      (cross more ((steps.Closes, f) ∷ pass ((steps.Opens, e) ∷ before) inner) ahead (sym (ap is_some (nest_ahead e f inner ts ahead i)) ∙ h))

  pub move : {d : Bool} {xs : List Turn} → Level d xs → (before ahead : List Turn) → Near out name before (xs ++ ahead) → Near out name (pass before xs) ahead
  move l before ahead (inl h) = inl (back_flat l before h)
  move l before ahead (inr h) = cross l before ahead h

-- Into a region, which looks for values leave
pub enter : (name : ℕ) (e f : Event) (before inner ahead : List Turn) → Level true inner → Near true name before ((steps.Opens, e) ∷ (inner ++ (steps.Closes, f) ∷ ahead)) → Near true name ((steps.Opens, e) ∷ before) (inner ++ (steps.Closes, f) ∷ ahead)
enter name e f before inner ahead i (inl h) = inl h
enter name e f before inner ahead i (inr h) = inr (ahead_flat true name i ((steps.Closes, f) ∷ ahead) (sym (ap is_some (ahead_deep true name i 0 ((steps.Closes, f) ∷ ahead))) ∙ h))

-- What is found
module _ (out : Bool) (R : ℕ → ℕ → Type 0) where
  flat_right : (d : Bool) (s : Step) (e : Event) (over : ℕ) (before : List Turn) → is_flat d s ≡ true → RightBack out R (suc over) before → RightBack out R (suc over) ((s, e) ∷ before)
  flat_right d steps.Opens e over before f h = absurd (true≢false (sym f))
  flat_right d steps.Closes e over before f h = absurd (true≢false (sym f))
  flat_right d steps.Ends e over before f h = tt
  flat_right d steps.Defines e over before f h = h
  flat_right d _ e over before f h = h

  right_deep : {d : Bool} {xs : List Turn} → Level d xs → (over : ℕ) (before : List Turn) → RightBack out R (suc over) before → RightBack out R (suc over) (pass before xs)
  right_deep (level_end d) over before h = h
  right_deep (level_step d s e f more) over before h = right_deep more over ((s, e) ∷ before) (flat_right d s e over before f h)
  right_deep (level_nest d e f {inner} {ts} i more) over before h =
      subst (λ (b : List Turn). RightBack out R (suc over) b) (sym (pass_append ((steps.Opens, e) ∷ before) inner ((steps.Closes, f) ∷ ts)))
      (right_deep more over ((steps.Closes, f) ∷ pass ((steps.Opens, e) ∷ before) inner) (right_deep i (suc over) ((steps.Opens, e) ∷ before) h))

  flat_passed : (d : Bool) (s : Step) (e : Event) (over at : ℕ) (ts : List Turn) → is_flat d s ≡ true → RightAhead out R (suc over) at ((s, e) ∷ ts) → RightAhead out R (suc over) (suc at) ts
  flat_passed d steps.Opens e over at ts f h = absurd (true≢false (sym f))
  flat_passed d steps.Closes e over at ts f h = absurd (true≢false (sym f))
  flat_passed d steps.Ends e over at ts f h = absurd (true≢false (sym f))
  flat_passed d steps.Defines e over at ts f h = h
  flat_passed d _ e over at ts f h = h

  ahead_passed : {d : Bool} {xs : List Turn} → Level d xs → (over at : ℕ) (ahead : List Turn) → RightAhead out R (suc over) at (xs ++ ahead) → RightAhead out R (suc over) (at + length xs) ahead
  ahead_passed (level_end d) over at ahead h = subst (λ (n : ℕ). RightAhead out R (suc over) n ahead) (omega arith) h
  ahead_passed (level_step d s e {ts} f more) over at ahead h =
      subst (λ (n : ℕ). RightAhead out R (suc over) n ahead) (omega arith) (ahead_passed more over (suc at) ahead (flat_passed d s e over at (ts ++ ahead) f h))
  ahead_passed (level_nest d e f {inner} {ts} i more) over at ahead h =
      let one = ahead_passed i (suc over) (suc at) ((steps.Closes, f) ∷ (ts ++ ahead)) (subst (λ (zs : List Turn). RightAhead out R (suc (suc over)) (suc at) zs) (append_assoc inner ((steps.Closes, f) ∷ ts) ahead) h) in
      subst (λ (n : ℕ). RightAhead out R (suc over) n ahead) (counts at (length inner) (length ts) (length (inner ++ (steps.Closes, f) ∷ ts)) (length-append inner ((steps.Closes, f) ∷ ts)))
      (ahead_passed more over (suc (suc at + length inner)) ahead one)
    where
      counts : (at i t n : ℕ) → n ≡ i + suc t → suc (suc at + i) + t ≡ at + suc n
      counts at i t n e = omega arith

  -- what may be found, moving across turns
  pub record Rights (before ahead : List Turn) : Type 0 where
    pub back : RightBack out R 0 before
    pub ahead_right : RightAhead out R 0 (length before) ahead

  flat_rights : (d : Bool) (s : Step) (e : Event) (before ahead : List Turn) → is_flat d s ≡ true → Rights before ((s, e) ∷ ahead) → Rights ((s, e) ∷ before) ahead
  flat_rights d steps.Opens e before ahead f h = absurd (true≢false (sym f))
  flat_rights d steps.Closes e before ahead f h = absurd (true≢false (sym f))
  flat_rights d steps.Ends e before ahead f h = absurd (true≢false (sym f))
  flat_rights d steps.Defines e before ahead f h = record { back = (h.ahead_right.0, h.back); ahead_right = h.ahead_right.1 }
  flat_rights d _ e before ahead f h = record { back = h.back; ahead_right = h.ahead_right }

  pub move_rights : {d : Bool} {xs : List Turn} → Level d xs → (before ahead : List Turn) → Rights before (xs ++ ahead) → Rights (pass before xs) ahead
  move_rights (level_end d) before ahead h = h
  move_rights (level_step d s e {ts} f more) before ahead h = move_rights more ((s, e) ∷ before) ahead (flat_rights d s e before (ts ++ ahead) f h)
  move_rights (level_nest d e f {inner} {ts} i more) before ahead h =
      let inside = ahead_passed i 0 (suc (length before)) ((steps.Closes, f) ∷ (ts ++ ahead)) (subst (λ (zs : List Turn). RightAhead out R 1 (suc (length before)) zs) (append_assoc inner ((steps.Closes, f) ∷ ts) ahead) h.ahead_right) in
      let b : List Turn = pass ((steps.Opens, e) ∷ before) inner in
      let more_rights : Rights ((steps.Closes, f) ∷ pass ((steps.Opens, e) ∷ before) inner) (ts ++ ahead) = record {
        back = right_deep i 0 ((steps.Opens, e) ∷ before) h.back;
        ahead_right = subst (λ (n : ℕ). RightAhead out R 0 n (ts ++ ahead)) (ap suc (sym (length_pass ((steps.Opens, e) ∷ before) inner))) inside;
      } in
      subst (λ (z : List Turn). Rights z ahead) (sym (pass_append ((steps.Opens, e) ∷ before) inner ((steps.Closes, f) ∷ ts))) (move_rights more ((steps.Closes, f) ∷ pass ((steps.Opens, e) ∷ before) inner) ahead more_rights)

  -- a look back finds what is right
  found_here : (b : Bool) (e : Event) (name n place : ℕ) (farther : Option ℕ) → (e.name == name) ≡ b → R e.name n → defined 0 b n farther ≡ Some place → (farther ≡ Some place → R name place) → R name place
  found_here true e name n place farther is r found deep = subst (λ (k : ℕ). R name k) (inside_some n place found) (subst (λ (m : ℕ). R m n) (eqb-is e.name name is) r)
    where
      inside_some : (m k : ℕ) → ◌≡◌ {A = Option ℕ} (Some m) (Some k) → m ≡ k
      inside_some m k e = cc
  found_here false e name n place farther is r found deep = deep found

  none_some : {P : Type 0} (k : ℕ) → ◌≡◌ {A = Option ℕ} None (Some k) → P
  none_some k e = absurd (none_is k e)
    where
      none_is : (k : ℕ) → ◌≡◌ {A = Option ℕ} None (Some k) → ⊥
      none_is k e = cc

  back_open : (o : Bool) (name place : ℕ) (ts : List Turn) → When o (RightBack out R 0 ts) → (if o then seen out name 0 ts else None) ≡ Some place → (RightBack out R 0 ts → seen out name 0 ts ≡ Some place → R name place) → R name place
  back_open true name place ts h found deep = deep h found
  back_open false name place ts h found deep = none_some place found

  pub sound_back : (name over place : ℕ) (before : List Turn) → RightBack out R over before → seen out name over before ≡ Some place → R name place
  sound_back name over place [] h found = none_some place found
  sound_back name zero place ((steps.Defines, e) ∷ ts) h found = found_here (e.name == name) e name (length ts) place (seen out name 0 ts) refl h.0 found (λ deep. sound_back name 0 place ts h.1 deep)
  sound_back name (suc over) place ((steps.Defines, e) ∷ ts) h found = sound_back name (suc over) place ts h found
  sound_back name zero place ((steps.Closes, e) ∷ ts) h found = sound_back name 1 place ts h found
  sound_back name (suc over) place ((steps.Closes, e) ∷ ts) h found = sound_back name (suc (suc over)) place ts h found
  sound_back name zero place ((steps.Opens, e) ∷ ts) h found = back_open out name place ts h found (λ r f. sound_back name 0 place ts r f)
  sound_back name (suc over) place ((steps.Opens, e) ∷ ts) h found = sound_back name over place ts h found
  sound_back name zero place ((steps.Ends, e) ∷ ts) h found = none_some place found
  sound_back name (suc over) place ((steps.Ends, e) ∷ ts) h found = none_some place found
  sound_back name zero place ((steps.Uses, e) ∷ ts) h found = sound_back name 0 place ts h found
  sound_back name (suc over) place ((steps.Uses, e) ∷ ts) h found = sound_back name (suc over) place ts h found
  sound_back name zero place ((steps.Misses, e) ∷ ts) h found = sound_back name 0 place ts h found
  sound_back name (suc over) place ((steps.Misses, e) ∷ ts) h found = sound_back name (suc over) place ts h found
  sound_back name zero place ((steps.Stays, e) ∷ ts) h found = sound_back name 0 place ts h found
  sound_back name (suc over) place ((steps.Stays, e) ∷ ts) h found = sound_back name (suc over) place ts h found

  -- and so does a look ahead
  record FoundAhead (name at beyond : ℕ) (ts : List Turn) : Type 0 where
    below : beyond < length ts
    right : R name (at + (length ts - 1 - beyond))

  later : (name at beyond : ℕ) (t : Turn) (ts : List Turn) → FoundAhead name (suc at) beyond ts → FoundAhead name at beyond (t ∷ ts)
  later name at beyond t ts f = record { below = grows (length ts) f.below; right = subst (λ (n : ℕ). R name n) (counts at (length ts) f.below) f.right }
    where
      grows : (n : ℕ) → beyond < n → beyond < suc n
      grows n b = omega arith

      counts : (m n : ℕ) → beyond < n → suc m + (n - 1 - beyond) ≡ m + (suc n - 1 - beyond)
      counts m n b = omega arith

  ahead_here_found : (b : Bool) (e : Event) (name at beyond : ℕ) (ts : List Turn) → (e.name == name) ≡ b → R e.name at → defined 0 b (length (map mirror ts)) (seen out name 0 (map mirror ts)) ≡ Some beyond
      → (seen out name 0 (map mirror ts) ≡ Some beyond → FoundAhead name (suc at) beyond ts) → FoundAhead name at beyond ((steps.Defines, e) ∷ ts)
  ahead_here_found true e name at beyond ts is r found deep =
      let n : length ts ≡ beyond = sym (length-map ts mirror) ∙ inside_some (length (map mirror ts)) beyond found in
      record { below = below n; right = subst (λ (k : ℕ). R name k) (counts n) (subst (λ (m : ℕ). R m at) (eqb-is e.name name is) r) }
    where
      inside_some : (m k : ℕ) → ◌≡◌ {A = Option ℕ} (Some m) (Some k) → m ≡ k
      inside_some m k e = cc

      below : length ts ≡ beyond → beyond < suc (length ts)
      below n = omega arith

      counts : length ts ≡ beyond → at ≡ at + (suc (length ts) - 1 - beyond)
      counts n = omega arith
  ahead_here_found false e name at beyond ts is r found deep = later name at beyond (steps.Defines, e) ts (deep found)

  ahead_close : (o : Bool) (e : Event) (name at beyond : ℕ) (ts : List Turn) → When o (RightAhead out R 0 (suc at) ts) → (if o then seen out name 0 (map mirror ts) else None) ≡ Some beyond
      → (RightAhead out R 0 (suc at) ts → seen out name 0 (map mirror ts) ≡ Some beyond → FoundAhead name (suc at) beyond ts) → FoundAhead name at beyond ((steps.Closes, e) ∷ ts)
  ahead_close true e name at beyond ts h found deep = later name at beyond (steps.Closes, e) ts (deep h found)
  ahead_close false e name at beyond ts h found deep = none_some beyond found

  sound_ahead : (name over at beyond : ℕ) (ts : List Turn) → RightAhead out R over at ts → seen out name over (map mirror ts) ≡ Some beyond → FoundAhead name at beyond ts
  sound_ahead name over at beyond [] h found = none_some beyond found
  sound_ahead name zero at beyond ((steps.Defines, e) ∷ ts) h found = ahead_here_found (e.name == name) e name at beyond ts refl h.0 found (λ f. sound_ahead name 0 (suc at) beyond ts h.1 f)
  sound_ahead name (suc over) at beyond ((steps.Defines, e) ∷ ts) h found = later name at beyond (steps.Defines, e) ts (sound_ahead name (suc over) (suc at) beyond ts h found)
  sound_ahead name zero at beyond ((steps.Opens, e) ∷ ts) h found = later name at beyond (steps.Opens, e) ts (sound_ahead name 1 (suc at) beyond ts h found)
  sound_ahead name (suc over) at beyond ((steps.Opens, e) ∷ ts) h found = later name at beyond (steps.Opens, e) ts (sound_ahead name (suc (suc over)) (suc at) beyond ts h found)
  sound_ahead name zero at beyond ((steps.Closes, e) ∷ ts) h found = ahead_close out e name at beyond ts h found (λ r f. sound_ahead name 0 (suc at) beyond ts r f)
  sound_ahead name (suc over) at beyond ((steps.Closes, e) ∷ ts) h found = later name at beyond (steps.Closes, e) ts (sound_ahead name over (suc at) beyond ts h found)
  sound_ahead name zero at beyond ((steps.Ends, e) ∷ ts) h found = none_some beyond found
  sound_ahead name (suc over) at beyond ((steps.Ends, e) ∷ ts) h found = none_some beyond found
  sound_ahead name zero at beyond ((steps.Uses, e) ∷ ts) h found = later name at beyond (steps.Uses, e) ts (sound_ahead name 0 (suc at) beyond ts h found)
  sound_ahead name (suc over) at beyond ((steps.Uses, e) ∷ ts) h found = later name at beyond (steps.Uses, e) ts (sound_ahead name (suc over) (suc at) beyond ts h found)
  sound_ahead name zero at beyond ((steps.Misses, e) ∷ ts) h found = later name at beyond (steps.Misses, e) ts (sound_ahead name 0 (suc at) beyond ts h found)
  sound_ahead name (suc over) at beyond ((steps.Misses, e) ∷ ts) h found = later name at beyond (steps.Misses, e) ts (sound_ahead name (suc over) (suc at) beyond ts h found)
  sound_ahead name zero at beyond ((steps.Stays, e) ∷ ts) h found = later name at beyond (steps.Stays, e) ts (sound_ahead name 0 (suc at) beyond ts h found)
  sound_ahead name (suc over) at beyond ((steps.Stays, e) ∷ ts) h found = later name at beyond (steps.Stays, e) ts (sound_ahead name (suc over) (suc at) beyond ts h found)

  -- what a use stands for
  pub record Found (name : ℕ) (found : Option ℕ) : Type 0 where
    pub place : ℕ
    pub is : found ≡ Some place
    pub right : R name place

  pub found_right : (name : ℕ) (before ahead : List Turn) → RightBack out R 0 before → RightAhead out R 0 (length before + 1) ahead → Near out name before ahead → Found name (stands_for out name before ahead)
  found_right name before ahead b a near = by_back (seen out name 0 before) refl near
    where
      counts : (m n k : ℕ) → k < n → m + 1 + (n - 1 - k) ≡ m + n - k
      counts m n k h = omega arith

      by_ahead : (o : Option ℕ) → seen out name 0 (map mirror ahead) ≡ o → is_some o ≡ true → Found name (option_map (λ beyond. length before + length ahead - beyond) o)
      by_ahead None is h = absurd (true≢false (sym h))
      by_ahead (Some beyond) is h =
          let f = sound_ahead name 0 (length before + 1) beyond ahead a is in
          record { place = length before + length ahead - beyond; is = refl; right = subst (λ (k : ℕ). R name k) (counts (length before) (length ahead) beyond f.below) f.right }

      by_back : (o : Option ℕ) → seen out name 0 before ≡ o → (is_some o ≡ true) ⊎ (is_some (seen out name 0 (map mirror ahead)) ≡ true) → Found name (or_else o (option_map (λ beyond. length before + length ahead - beyond) (seen out name 0 (map mirror ahead))))
      by_back (Some place) is h = record { place = place; is = refl; right = sound_back name 0 place before b is }
      by_back None is (inl h) = absurd (true≢false (sym h))
      by_back None is (inr h) = by_ahead (seen out name 0 (map mirror ahead)) refl h
