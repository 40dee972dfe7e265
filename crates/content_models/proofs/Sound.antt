-- What the machine reads spells a model.
use Rattle.std.proofs.Common.{◌≡◌, List, [], ◌∷◌, Bool, true, false, Option, None, refl, sym, subst, ◌∙◌}
use Rattle.std.proofs.lemmas.Bool.{true≢false}
use Rattle.std.specs.Prelude.{Some as Just}
use Rattle.content_models.specs.Models.{Model, Named, Nothing, Then, Either, Optional, Any, Some}
use Rattle.content_models.specs.Spelled.{Token, Word, Open, Close, Comma, Bar, Question, Star, Plus, IsModel, one_sequence, more_sequences, IsSequence, one_item, more_items, IsItem, plain, optional, any, some, IsAtom, name, empty, inside}
use Rattle.content_models.specs.declared.postfix.Op.{Op}
use Rattle.content_models.specs.declared.postfix.Op.TheVariants.{PushNothing}
use Rattle.content_models.specs.declared.machine.Level.{Level}
use Rattle.content_models.specs.declared.machine.Mode.{Mode}
use Rattle.content_models.specs.declared.machine.Mode.TheVariants.{Wanted, AtomDone, ItemDone}
use Rattle.content_models.specs.Postfix.{code_on}
use Rattle.content_models.specs.Machine.{At, first_level, moved, commas_on, level_on, closed, wanted, after_item, after_atom, step_in, ended_in, run, Reads}

-- operands stand before b, in a model that began at a over the code o
data Operands (a : List Token) (o : List Op) : Bool → Bool → List Token → List Op → Type 0 where
  none_yet : Operands a o false false a o
  in_sequence : (m : Model) (b : List Token) → IsSequence m a (Comma ∷ b) → Operands a o false true b (code_on m o)
  in_choice : (m : Model) (b : List Token) → IsModel m a (Bar ∷ b) → Operands a o true false b (code_on m o)
  in_both : (m n : Model) (b c : List Token) → IsModel m a (Bar ∷ b) → IsSequence n b (Comma ∷ c) → Operands a o true true c (code_on n (code_on m o))

-- what is open: each frame's model began somewhere, and a parenthesis opened where one of its atoms was wanted
data Frames (whole : List Token) : List Level → List Token → List Op → Type 0 where
  outermost : Frames whole [] whole []
  opened : (l : Level) (fs : List Level) (a b : List Token) (o p : List Op) → Frames whole fs a o → Operands a o l.bars l.commas (Open ∷ b) p → Frames whole (l ∷ fs) b p

-- what the machine holds where b is still to come
data Holds (whole : List Token) : Mode → Level → List Level → List Op → List Token → Type 0 where
  wants_first : (fs : List Level) (a : List Token) (o : List Op) → Frames whole fs a o → (top : Bool) → Holds whole (Wanted top) first_level fs o a
  wants : (l : Level) (fs : List Level) (a b : List Token) (o p : List Op) → Frames whole fs a o → Operands a o l.bars l.commas b p → Holds whole (Wanted false) l fs p b
  has_atom : (l : Level) (fs : List Level) (a b c : List Token) (o p : List Op) (m : Model) → Frames whole fs a o → Operands a o l.bars l.commas b p → IsAtom m b c → Holds whole AtomDone l fs (code_on m p) c
  has_item : (l : Level) (fs : List Level) (a b c : List Token) (o p : List Op) (m : Model) → Frames whole fs a o → Operands a o l.bars l.commas b p → IsItem m b c → Holds whole ItemDone l fs (code_on m p) c

-- the sequence that an item ends, over its code
record Sequence (a : List Token) (o : List Op) (x : Bool) (c : List Token) (p : List Op) : Type 0 where
  model : Model
  begins : List Token
  below : List Op
  operands : Operands a o x false begins below
  spelled : IsSequence model begins c
  code : p ≡ code_on model below

sequence_of : (a b c : List Token) (o p : List Op) (x y : Bool) (m : Model) → Operands a o x y b p → IsItem m b c → Sequence a o x c (commas_on y (code_on m p))
sequence_of a _ c o _ _ _ m none_yet i = record { model = m; begins = a; below = o; operands = none_yet; spelled = one_item m a c i; code = refl }
sequence_of a _ c o _ _ _ m (in_sequence n b s) i = record { model = Then n m; begins = a; below = o; operands = none_yet; spelled = more_items n m a b c s i; code = refl }
sequence_of a _ c o _ _ _ m (in_choice n b h) i = record { model = m; begins = b; below = code_on n o; operands = in_choice n b h; spelled = one_item m b c i; code = refl }
sequence_of a _ c o _ _ _ m (in_both n k b d h s) i = record { model = Then k m; begins = b; below = code_on n o; operands = in_choice n b h; spelled = more_items k m b d c s i; code = refl }

-- the model that an item ends
record Whole (a : List Token) (o : List Op) (c : List Token) (p : List Op) : Type 0 where
  model : Model
  spelled : IsModel model a c
  code : p ≡ code_on model o

whole_of : (a b c : List Token) (o p : List Op) (x y : Bool) (m : Model) → Operands a o x y b p → IsItem m b c → Whole a o c (level_on (record { bars = x; commas = y }) (code_on m p))
whole_of a _ c o _ _ _ m none_yet i = record { model = m; spelled = one_sequence m a c (one_item m a c i); code = refl }
whole_of a _ c o _ _ _ m (in_sequence n b s) i = record { model = Then n m; spelled = one_sequence (Then n m) a c (more_items n m a b c s i); code = refl }
whole_of a _ c o _ _ _ m (in_choice n b h) i = record { model = Either n m; spelled = more_sequences n m a b c h (one_item m b c i); code = refl }
whole_of a _ c o _ _ _ m (in_both n k b d h s) i = record { model = Either n (Then k m); spelled = more_sequences n (Then k m) a b c h (more_items k m b d c s i); code = refl }

-- the sequence waits for what is behind a comma
waits : (a c : List Token) (o : List Op) (x y : Bool) (b : List Token) (p : List Op) (m : Model) → y ≡ false → Operands a o x y b p → IsSequence m b (Comma ∷ c) → Operands a o x true c (code_on m p)
waits a c o _ _ _ _ m e none_yet s = in_sequence m c s
waits a c o _ _ _ _ m e (in_sequence n b h) s = absurd (true≢false e)
waits a c o _ _ _ _ m e (in_choice n b h) s = in_both n m b c h s
waits a c o _ _ _ _ m e (in_both n k b d h t) s = absurd (true≢false e)

abbrev AtHolds : List Token → Option At → List Token → Type 0
AtHolds whole None b = Unit {0}
AtHolds whole (Just s) b = Holds whole s.mode s.level s.frames s.code b

-- an atom that closes is one of the model around it
closes : (whole : List Token) (fs : List Level) (a c : List Token) (o p : List Op) (m : Model) → Frames whole fs a o → IsModel m a (Close ∷ c) → p ≡ code_on m o → AtHolds whole (closed fs p) c
closes whole _ _ c _ p m outermost h e = tt
closes whole _ _ c _ p m (opened l fs a b o q f ops) h e = subst (λ z. Holds whole AtomDone l fs z c) (sym e) (has_atom l fs a (Open ∷ b) c o q m f ops (inside m b c h))

item-step : (whole : List Token) (l : Level) (fs : List Level) (a b c : List Token) (o p : List Op) (m : Model) (t : Token) → Frames whole fs a o → Operands a o l.bars l.commas b p → IsItem m b (t ∷ c)
    → AtHolds whole (after_item l fs (code_on m p) t) c
item-step whole l fs a b c o p m (Word w) f ops i = tt
item-step whole l fs a b c o p m Open f ops i = tt
item-step whole l fs a b c o p m Question f ops i = tt
item-step whole l fs a b c o p m Star f ops i = tt
item-step whole l fs a b c o p m Plus f ops i = tt
item-step whole l fs a b c o p m Comma f ops i =
    let s = sequence_of a b (Comma ∷ c) o p l.bars l.commas m ops i in
    wants (record { bars = l.bars; commas = true }) fs a c o (commas_on l.commas (code_on m p)) f
    (subst (Operands a o l.bars true c) (sym s.code) (waits a c o l.bars false s.begins s.below s.model refl s.operands s.spelled))
item-step whole l fs a b c o p m Bar f ops i =
    let w = whole_of a b (Bar ∷ c) o p l.bars l.commas m ops i in
    wants (record { bars = true; commas = false }) fs a c o (level_on l (code_on m p)) f
    (subst (Operands a o true false c) (sym w.code) (in_choice w.model c w.spelled))
item-step whole l fs a b c o p m Close f ops i =
    let w = whole_of a b (Close ∷ c) o p l.bars l.commas m ops i in
    closes whole fs a c o (level_on l (code_on m p)) w.model f w.spelled w.code

atom-step : (whole : List Token) (l : Level) (fs : List Level) (a b c : List Token) (o p : List Op) (m : Model) (t : Token) → Frames whole fs a o → Operands a o l.bars l.commas b p → IsAtom m b (t ∷ c)
    → AtHolds whole (after_atom l fs (code_on m p) t) c
atom-step whole l fs a b c o p m (Word w) f ops i = tt
atom-step whole l fs a b c o p m Open f ops i = tt
atom-step whole l fs a b c o p m Question f ops i = has_item l fs a b c o p (Optional m) f ops (optional m b c i)
atom-step whole l fs a b c o p m Star f ops i = has_item l fs a b c o p (Any m) f ops (any m b c i)
atom-step whole l fs a b c o p m Plus f ops i = has_item l fs a b c o p (Some m) f ops (some m b c i)
atom-step whole l fs a b c o p m Comma f ops i = item-step whole l fs a b c o p m Comma f ops (plain m b (Comma ∷ c) i)
atom-step whole l fs a b c o p m Bar f ops i = item-step whole l fs a b c o p m Bar f ops (plain m b (Bar ∷ c) i)
atom-step whole l fs a b c o p m Close f ops i = item-step whole l fs a b c o p m Close f ops (plain m b (Close ∷ c) i)

wanted-step : (whole : List Token) (l : Level) (fs : List Level) (a c : List Token) (o p : List Op) (t : Token) → Frames whole fs a o → Operands a o l.bars l.commas (t ∷ c) p → AtHolds whole (wanted false l fs p t) c
wanted-step whole l fs a c o p (Word w) f ops = has_atom l fs a (Word w ∷ c) c o p (Named w) f ops (name w c)
wanted-step whole l fs a c o p Open f ops = wants_first (l ∷ fs) c p (opened l fs a c o p f ops) true
wanted-step whole l fs a c o p Close f ops = tt
wanted-step whole l fs a c o p Comma f ops = tt
wanted-step whole l fs a c o p Bar f ops = tt
wanted-step whole l fs a c o p Question f ops = tt
wanted-step whole l fs a c o p Star f ops = tt
wanted-step whole l fs a c o p Plus f ops = tt

closes_empty : (whole : List Token) (fs : List Level) (a c : List Token) (o : List Op) → a ≡ Close ∷ c → Frames whole fs a o → AtHolds whole (closed fs (PushNothing ∷ o)) c
closes_empty whole _ _ c _ e outermost = tt
closes_empty whole _ _ c _ e (opened l fs a b o q f ops) = has_atom l fs a (Open ∷ Close ∷ c) c o q Nothing f (subst (λ z. Operands a o l.bars l.commas (Open ∷ z) q) e ops) (empty c)

first-step : (whole : List Token) (fs : List Level) (c : List Token) (o : List Op) (t : Token) (top : Bool) → Frames whole fs (t ∷ c) o → AtHolds whole (wanted top first_level fs o t) c
first-step whole fs c o t false f = wanted-step whole first_level fs (t ∷ c) c o o t f none_yet
first-step whole fs c o (Word w) true f = has_atom first_level fs (Word w ∷ c) (Word w ∷ c) c o o (Named w) f none_yet (name w c)
first-step whole fs c o Open true f = wants_first (first_level ∷ fs) c o (opened first_level fs (Open ∷ c) c o o f none_yet) true
first-step whole fs c o Close true f = closes_empty whole fs (Close ∷ c) c o refl f
first-step whole fs c o Comma true f = tt
first-step whole fs c o Bar true f = tt
first-step whole fs c o Question true f = tt
first-step whole fs c o Star true f = tt
first-step whole fs c o Plus true f = tt

holds-step : (whole : List Token) (m : Mode) (l : Level) (fs : List Level) (o : List Op) (b : List Token) (t : Token) (c : List Token) → b ≡ t ∷ c → Holds whole m l fs o b → AtHolds whole (step_in m l fs o t) c
holds-step whole _ _ _ _ _ t c e (wants_first fs a o f top) = first-step whole fs c o t top (subst (λ z. Frames whole fs z o) e f)
holds-step whole _ _ _ _ _ t c e (wants l fs a b o p f ops) = wanted-step whole l fs a c o p t f (subst (λ z. Operands a o l.bars l.commas z p) e ops)
holds-step whole _ _ _ _ _ t c e (has_atom l fs a b d o p m f ops i) = atom-step whole l fs a b c o p m t f ops (subst (IsAtom m b) e i)
holds-step whole _ _ _ _ _ t c e (has_item l fs a b d o p m f ops i) = item-step whole l fs a b c o p m t f ops (subst (IsItem m b) e i)

-- the outcome
abbrev Found : List Token → List Op → Type 0
Found whole code = (m : Model) × IsModel m whole [] × (code ≡ code_on m [])

ends : (whole : List Token) (l : Level) (fs : List Level) (a b c : List Token) (o p : List Op) (m : Model) (code : List Op) → c ≡ [] → Frames whole fs a o → Operands a o l.bars l.commas b p → IsItem m b c
    → ended_in ItemDone l fs (code_on m p) ≡ Just code → Found whole code
ends whole l _ _ b c _ p m code z outermost ops i e =
    let w = whole_of whole b c [] p l.bars l.commas m ops i in
    let same : level_on l (code_on m p) ≡ code = cc in
    (w.model, subst (IsModel w.model whole) z w.spelled, sym same ∙ w.code)
ends whole l _ _ b c _ p m code z (opened k fs a d o q f more) ops i e = absurd (let n : ◌≡◌ {A = Option (List Op)} None (Just code) = e in cc)

holds-end : (whole : List Token) (m : Mode) (l : Level) (fs : List Level) (o : List Op) (b : List Token) (code : List Op) → b ≡ [] → Holds whole m l fs o b → ended_in m l fs o ≡ Just code → Found whole code
holds-end whole _ _ _ _ _ code z (wants_first fs a o f top) e = absurd (let n : ◌≡◌ {A = Option (List Op)} None (Just code) = e in cc)
holds-end whole _ _ _ _ _ code z (wants l fs a b o p f ops) e = absurd (let n : ◌≡◌ {A = Option (List Op)} None (Just code) = e in cc)
holds-end whole _ _ _ _ _ code z (has_atom l [] a b d o p m f ops i) e = ends whole l [] a b d o p m code z f ops (plain m b d i) e
holds-end whole _ _ _ _ _ code z (has_atom l (k ∷ fs) a b d o p m f ops i) e = absurd (let n : ◌≡◌ {A = Option (List Op)} None (Just code) = e in cc)
holds-end whole _ _ _ _ _ code z (has_item l fs a b d o p m f ops i) e = ends whole l fs a b d o p m code z f ops i e

goes_on : (whole : List Token) (code : List Op) (b : List Token) (s : Option At) → AtHolds whole s b → run s b ≡ Just code → Found whole code
goes_on whole code b None h e = absurd (let n : ◌≡◌ {A = Option (List Op)} None (Just code) = e in cc)
goes_on whole code [] (Just s) h e = holds-end whole s.mode s.level s.frames s.code [] code refl h e
goes_on whole code (t ∷ b) (Just s) h e = goes_on whole code b (step_in s.mode s.level s.frames s.code t) (holds-step whole s.mode s.level s.frames s.code (t ∷ b) t b refl h) e

-- what is read spells a model of that code
pub sound : (ts : List Token) (code : List Op) → Reads (Wanted false) first_level [] [] ts code → (m : Model) × IsModel m ts [] × (code ≡ code_on m [])
sound ts code e = goes_on ts code ts (moved (Wanted false) first_level [] []) (wants_first [] ts [] outermost false) e
