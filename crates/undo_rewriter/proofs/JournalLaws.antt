-- Journals, whatever their steps are.
use Rattle.std.proofs.Common.{◌≡◌, ℕ, zero, suc, ◌<◌, ◌≤◌, ◌+◌, List, [], ◌∷◌, ◌++◌, length, get_or, take, drop, refl, sym, ap, subst, ◌∙◌, arith}
use Rattle.std.proofs.lemmas.List.{length_push, drop_all, take-append-le, take_all, take-take}
use Rattle.flat_model.specs.Flat.{Flat, IsClosed}
use Rattle.undo_rewriter.specs.declared.step.Step.{Step}
use Rattle.undo_rewriter.specs.declared.step.Step.TheVariants.{Begin, OpAdded, OpListed, OpUnlisted, OperandSet, ValueAdded, BlockAdded, ArgsSet, BlocksSet, NodeSet, BlockCut, BlocksListed, Replaced}
use Rattle.edit_model.specs.Rooms.{IsRoomier}
use Rattle.undo_rewriter.specs.Journal.{undone, rooms_before, back, rooms_back, at_mark, edits, IsPossible, CanUndo, IsSound, Edited, KeepsMarks}

pub back_push : (us : List Step) (u : Step) (f : Flat) → back (us ++ u ∷ []) f ≡ back us (undone u f)
back_push [] u f = refl
back_push (v ∷ us) u f = ap (undone v) (back_push us u f)

drop_push : (us : List Step) (u : Step) (k : ℕ) → k ≤ length us → drop k (us ++ u ∷ []) ≡ drop k us ++ u ∷ []
drop_push us u zero h = refl
drop_push [] u (suc k) h = absurd (omega arith)
drop_push (v ∷ us) u (suc k) h = drop_push us u k (omega arith)

-- a step leaves what each earlier mark gives
mark_push : (us : List Step) (u : Step) (f g : Flat) (k : ℕ) → undone u g ≡ f → k ≤ length us → at_mark (us ++ u ∷ []) g k ≡ at_mark us f k
mark_push us u f g k e h = ap (λ vs. back vs g) (drop_push us u k h) ∙ back_push (drop k us) u g ∙ ap (back (drop k us)) e

rooms_push : (us : List Step) (u : Step) (rooms : List ℕ) → rooms_back (us ++ u ∷ []) rooms ≡ rooms_back us (rooms_before u rooms)
rooms_push [] u rooms = refl
rooms_push (v ∷ us) u rooms = ap (rooms_before v) (rooms_push us u rooms)

-- what is asked of a step, where a further one is taken back first
can_push : (rooms : List ℕ) (us : List Step) (u v : Step) (g : Flat) → CanUndo (rooms_back us (rooms_before u rooms)) v (back us (undone u g)) → CanUndo (rooms_back (us ++ u ∷ []) rooms) v (back (us ++ u ∷ []) g)
can_push rooms us u v g s = subst (λ r. CanUndo r v (back (us ++ u ∷ []) g)) (sym (rooms_push us u rooms)) (subst (λ h. CanUndo (rooms_back us (rooms_before u rooms)) v h) (sym (back_push us u g)) s)

can_front : (rooms : List ℕ) (us : List Step) (u v : Step) (g : Flat) → CanUndo (rooms_back (us ++ u ∷ []) rooms) v (back (us ++ u ∷ []) g) → CanUndo (rooms_back us (rooms_before u rooms)) v (back us (undone u g))
can_front rooms us u v g s = subst (λ r. CanUndo r v (back us (undone u g))) (rooms_push us u rooms) (subst (λ h. CanUndo (rooms_back (us ++ u ∷ []) rooms) v h) (back_push us u g) s)

sound_push : (rooms : List ℕ) (us : List Step) (u : Step) (g : Flat) → IsSound (rooms_before u rooms) us (undone u g) → CanUndo rooms u g → IsSound rooms (us ++ u ∷ []) g
sound_push rooms [] u g s c = (c, tt)
sound_push rooms (v ∷ us) u g s c = (can_push rooms us u v g s.0, sound_push rooms us u g s.1 c)

sound_last : (rooms : List ℕ) (us : List Step) (u : Step) (g : Flat) → IsSound rooms (us ++ u ∷ []) g → CanUndo rooms u g
sound_last rooms [] u g s = s.0
sound_last rooms (v ∷ us) u g s = sound_last rooms us u g s.1

sound_front : (rooms : List ℕ) (us : List Step) (u : Step) (g : Flat) → IsSound rooms (us ++ u ∷ []) g → IsSound (rooms_before u rooms) us (undone u g)
sound_front rooms [] u g s = tt
sound_front rooms (v ∷ us) u g s = (can_front rooms us u v g s.0, sound_front rooms us u g s.1)

possible_more : (a b : List ℕ) → IsRoomier a b → (u : Step) (f : Flat) → IsPossible a u f → IsPossible b u f
possible_more a b r Begin f p = tt
possible_more a b r (OpAdded values) f p = p
possible_more a b r (OpListed block at) f p = p
possible_more a b r (OpUnlisted block at op) f p = (p.0, p.1, let m = r.room block in let q = p.2 in omega arith)
possible_more a b r (OperandSet op at value) f p = p
possible_more a b r (ValueAdded values) f p = tt
possible_more a b r (BlockAdded blocks) f p = tt
possible_more a b r (ArgsSet block args) f p = p
possible_more a b r (BlocksSet region blocks) f p = p
possible_more a b r (NodeSet op node) f p = p
possible_more a b r (BlockCut block end) f p = (p.0, p.1, let m = r.room block in let q = p.2 in omega arith)
possible_more a b r (BlocksListed region at count) f p = p
possible_more a b r (Replaced c) f p = tt

roomier_refl : (a : List ℕ) → IsRoomier a a
roomier_refl a = record { room = λ k. omega arith }

-- a list in which all is 0
none_taken : (n : ℕ) (a : List ℕ) → ((k : ℕ) → get_or a k 0 ≤ 0) → (k : ℕ) → get_or (take n a) k 0 ≤ 0
none_taken zero a r k = omega arith
none_taken (suc n) [] r k = omega arith
none_taken (suc n) (x ∷ a) r zero = r zero
none_taken (suc n) (x ∷ a) r (suc k) = none_taken n a (λ j. r (suc j)) k

taken_room : (n : ℕ) (a b : List ℕ) → IsRoomier a b → (k : ℕ) → get_or (take n a) k 0 ≤ get_or (take n b) k 0
taken_room zero a b r k = omega arith
taken_room (suc n) [] [] r k = omega arith
taken_room (suc n) [] (y ∷ b) r k = omega arith
taken_room (suc n) (x ∷ a) [] r zero = r.room zero
taken_room (suc n) (x ∷ a) [] r (suc k) = none_taken n a (λ j. r.room (suc j)) k
taken_room (suc n) (x ∷ a) (y ∷ b) r zero = r.room zero
taken_room (suc n) (x ∷ a) (y ∷ b) r (suc k) = taken_room n a b (record { room = λ j. r.room (suc j) }) k

roomier_take : (n : ℕ) (a b : List ℕ) → IsRoomier a b → IsRoomier (take n a) (take n b)
roomier_take n a b r = record { room = λ k. taken_room n a b r k }

-- more room now is more room before
roomier_before : (u : Step) (a b : List ℕ) → IsRoomier a b → IsRoomier (rooms_before u a) (rooms_before u b)
roomier_before Begin a b r = r
roomier_before (OpAdded values) a b r = r
roomier_before (OpListed block at) a b r = r
roomier_before (OpUnlisted block at op) a b r = r
roomier_before (OperandSet op at value) a b r = r
roomier_before (ValueAdded values) a b r = r
roomier_before (BlockAdded blocks) a b r = roomier_take blocks a b r
roomier_before (ArgsSet block args) a b r = r
roomier_before (BlocksSet region blocks) a b r = r
roomier_before (NodeSet op node) a b r = r
roomier_before (BlockCut block end) a b r = roomier_take end a b r
roomier_before (BlocksListed region at count) a b r = r
roomier_before (Replaced c) a b r = roomier_refl c.rooms

roomier_back : (us : List Step) (a b : List ℕ) → IsRoomier a b → IsRoomier (rooms_back us a) (rooms_back us b)
roomier_back [] a b r = r
roomier_back (u ∷ us) a b r = roomier_before u (rooms_back us a) (rooms_back us b) (roomier_back us a b r)

-- more room keeps a journal sound
sound_more : (a b : List ℕ) → IsRoomier a b → (us : List Step) (f : Flat) → IsSound a us f → IsSound b us f
sound_more a b r [] f s = tt
sound_more a b r (u ∷ us) f s = (record { possible = possible_more (rooms_back us a) (rooms_back us b) (roomier_back us a b r) u (back us f) s.0.possible; closed = s.0.closed }, sound_more a b r us f s.1)

-- after a step whose undoing gives the nodes back, the journal with it is sound
pub sound_after : (a b : List ℕ) (us ws : List Step) (u : Step) (f g : Flat) → ws ≡ us ++ u ∷ [] → IsSound a us f → IsRoomier a (rooms_before u b) → undone u g ≡ f → IsPossible b u g → IsClosed f → IsSound b ws g
sound_after a b us ws u f g e s r k p c = subst (λ vs. IsSound b vs g) (sym e)
    (sound_push b us u g (subst (λ h. IsSound (rooms_before u b) us h) (sym k) (sound_more a (rooms_before u b) r us f s)) (record { possible = p; closed = subst IsClosed (sym k) c }))

-- and the marks are kept
pub kept_after : (a b : Edited) (u : Step) → b.journal ≡ a.journal ++ u ∷ [] → undone u b.now ≡ a.now → KeepsMarks a b
kept_after a b u e h = let n : length b.journal ≡ length a.journal + 1 = ap length e ∙ length_push a.journal u in record {
  longer = omega arith;
  front = ap (take (length a.journal)) e ∙ take-append-le (length a.journal) a.journal (u ∷ []) (omega arith) ∙ take_all (length a.journal) a.journal (omega arith);
  marks = λ k l. subst (λ vs. at_mark vs b.now k ≡ at_mark a.journal a.now k) (sym e) (mark_push a.journal u a.now b.now k h l);
}

pub kept_refl : (a : Edited) → KeepsMarks a a
kept_refl a = record { longer = omega arith; front = take_all (length a.journal) a.journal (omega arith); marks = λ k l. refl }

pub kept_same : (a b : Edited) → b.now ≡ a.now → b.journal ≡ a.journal → KeepsMarks a b
kept_same a b n e = record {
  longer = omega (arith, ap length e);
  front = ap (take (length a.journal)) e ∙ take_all (length a.journal) a.journal (omega arith);
  marks = λ k l. ap (λ vs. at_mark vs b.now k) e ∙ ap (λ f. at_mark a.journal f k) n;
}

take_front : (us vs : List Step) (m n : ℕ) → m ≤ n → take n us ≡ vs → take m us ≡ take m vs
take_front us vs m n h e = sym (take-take m n us h) ∙ ap (take m) e

pub kept_on : (a b c : Edited) → KeepsMarks a b → KeepsMarks b c → KeepsMarks a c
kept_on a b c s t = record {
  longer = let m = s.longer in let n = t.longer in omega arith;
  front = take_front c.journal b.journal (length a.journal) (length b.journal) s.longer t.front ∙ s.front;
  marks = λ k l. t.marks k (let m = s.longer in omega arith) ∙ s.marks k l;
}

pub last_can : (a : List ℕ) (us vs : List Step) (u : Step) (f : Flat) → us ≡ vs ++ u ∷ [] → IsSound a us f → CanUndo a u f
last_can a us vs u f e s = sound_last a vs u f (subst (λ ws. IsSound a ws f) e s)

pub popped_sound : (a b : List ℕ) (us vs : List Step) (u : Step) (f g : Flat) → us ≡ vs ++ u ∷ [] → IsSound a us f → IsRoomier (rooms_before u a) b → g ≡ undone u f → IsSound b vs g
popped_sound a b us vs u f g e s r k = subst (λ h. IsSound b vs h) (sym k) (sound_more (rooms_before u a) b r vs (undone u f) (sound_front a vs u f (subst (λ ws. IsSound a ws f) e s)))

pub popped_mark : (us vs : List Step) (u : Step) (f g : Flat) → us ≡ vs ++ u ∷ [] → g ≡ undone u f → (k : ℕ) → k < length us → at_mark vs g k ≡ at_mark us f k
popped_mark us vs u f g e h k l = ap (λ x. at_mark vs x k) h
    ∙ sym (mark_push vs u (undone u f) f k refl (let n : length us ≡ length vs + 1 = ap length e ∙ length_push vs u in omega arith))
    ∙ ap (λ ws. at_mark ws f k) (sym e)

-- the nodes at the end of the journal are the nodes now
pub mark_now : (us : List Step) (f : Flat) (k : ℕ) → length us ≤ k → at_mark us f k ≡ f
mark_now us f k h = ap (λ vs. back vs f) (drop_all k us h)

edits_push : (us : List Step) (u : Step) → edits (us ++ u ∷ []) ≡ edits us + edits (u ∷ [])
edits_push [] u = omega arith
edits_push (Begin ∷ us) u = let e = edits_push us u in omega arith
edits_push (OpAdded a ∷ us) u = edits_push us u
edits_push (OpListed a b ∷ us) u = edits_push us u
edits_push (OpUnlisted a b c ∷ us) u = edits_push us u
edits_push (OperandSet a b c ∷ us) u = edits_push us u
edits_push (ValueAdded a ∷ us) u = edits_push us u
edits_push (BlockAdded a ∷ us) u = edits_push us u
edits_push (ArgsSet a b ∷ us) u = edits_push us u
edits_push (BlocksSet a b ∷ us) u = edits_push us u
edits_push (NodeSet a b ∷ us) u = edits_push us u
edits_push (BlockCut a b ∷ us) u = edits_push us u
edits_push (BlocksListed a b c ∷ us) u = edits_push us u
edits_push (Replaced a ∷ us) u = let e = edits_push us u in omega arith

-- one step fewer behind a mark
pub popped_edits : (us vs : List Step) (u : Step) (k : ℕ) → us ≡ vs ++ u ∷ [] → k < length us → edits (drop k us) ≡ edits (drop k vs) + edits (u ∷ [])
popped_edits us vs u k e l = ap (λ ws. edits (drop k ws)) e
    ∙ ap edits (drop_push vs u k (let n : length us ≡ length vs + 1 = ap length e ∙ length_push vs u in omega arith)) ∙ edits_push (drop k vs) u
