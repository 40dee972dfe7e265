-- What spells a model is read to its postfix code.
use Rattle.std.proofs.Common.{◌≡◌, List, [], ◌∷◌, Bool, true, false, Option, None, refl}
use Rattle.std.specs.Prelude.{Some as Just}
use Rattle.content_models.specs.Models.{Model}
use Rattle.content_models.specs.Spelled.{Token, Word, Open, Close, Comma, Bar, Question, Star, Plus, IsModel, one_sequence, more_sequences, IsSequence, one_item, more_items, IsItem, plain, optional, any, some, IsAtom, name, empty, inside}
use Rattle.content_models.specs.declared.postfix.Op.{Op}
use Rattle.content_models.specs.declared.postfix.Op.TheVariants.{Join, Choose}
use Rattle.content_models.specs.declared.machine.Level.{Level}
use Rattle.content_models.specs.declared.machine.Mode.TheVariants.{Wanted, AtomDone, ItemDone}
use Rattle.content_models.specs.Postfix.{code_on}
use Rattle.content_models.specs.Machine.{first_level, closed, ended_in, run, Reads}

refused : (code : List Op) (P : Type 0) → ◌≡◌ {A = Option (List Op)} None (Just code) → P
refused code P e = absurd (no e) where
  no : ◌≡◌ {A = Option (List Op)} None (Just code) → ⊥
  no f = cc

-- behind an item that takes no sign, the machine may stand before one
plainly : (l : Level) (fs : List Level) (o : List Op) (b : List Token) (code : List Op) → Reads ItemDone l fs o b code → Reads AtomDone l fs o b code
plainly l [] o [] code r = r
plainly l (f ∷ fs) o [] code r = r
plainly l fs o (Word w ∷ b) code r = r
plainly l fs o (Open ∷ b) code r = r
plainly l fs o (Close ∷ b) code r = r
plainly l fs o (Comma ∷ b) code r = r
plainly l fs o (Bar ∷ b) code r = r
plainly l fs o (Question ∷ b) code r = refused code (Reads AtomDone l fs o (Question ∷ b) code) r
plainly l fs o (Star ∷ b) code r = refused code (Reads AtomDone l fs o (Star ∷ b) code) r
plainly l fs o (Plus ∷ b) code r = refused code (Reads AtomDone l fs o (Plus ∷ b) code) r

abbrev level : Bool → Bool → Level
level x c = record { bars = x; commas = c }

-- a sequence that waits is as one that is joined
waiting : (x : Bool) (fs : List Level) (o : List Op) (b : List Token) (code : List Op) → Reads ItemDone (level x false) fs (Join ∷ o) b code → Reads ItemDone (level x true) fs o b code
waiting x [] o [] code r = r
waiting x (f ∷ fs) o [] code r = r
waiting x fs o (Word w ∷ b) code r = r
waiting x fs o (Open ∷ b) code r = r
waiting x fs o (Close ∷ b) code r = r
waiting x fs o (Comma ∷ b) code r = r
waiting x fs o (Bar ∷ b) code r = r
waiting x fs o (Question ∷ b) code r = r
waiting x fs o (Star ∷ b) code r = r
waiting x fs o (Plus ∷ b) code r = r

-- behind a model the machine reads to this code; no comma may follow
abbrev Behind : List Level → List Op → List Token → List Op → Type 0
Behind fs o [] code = ended_in ItemDone first_level fs o ≡ Just code
Behind fs o (Bar ∷ b) code = Reads (Wanted false) (level true false) fs o b code
Behind fs o (Close ∷ b) code = run (closed fs o) b ≡ Just code
Behind fs o (_ ∷ b) code = ⊥

one_behind : (fs : List Level) (o : List Op) (b : List Token) (code : List Op) → Behind fs o b code → Reads ItemDone first_level fs o b code
one_behind fs o [] code r = r
one_behind fs o (Bar ∷ b) code r = r
one_behind fs o (Close ∷ b) code r = r
one_behind fs o (Word w ∷ b) code r = absurd r
one_behind fs o (Open ∷ b) code r = absurd r
one_behind fs o (Comma ∷ b) code r = absurd r
one_behind fs o (Question ∷ b) code r = absurd r
one_behind fs o (Star ∷ b) code r = absurd r
one_behind fs o (Plus ∷ b) code r = absurd r

more_behind : (fs : List Level) (o : List Op) (b : List Token) (code : List Op) → Behind fs (Choose ∷ o) b code → Reads ItemDone (level true false) fs o b code
more_behind [] o [] code r = r
more_behind (f ∷ fs) o [] code r = r
more_behind fs o (Bar ∷ b) code r = r
more_behind fs o (Close ∷ b) code r = r
more_behind fs o (Word w ∷ b) code r = absurd r
more_behind fs o (Open ∷ b) code r = absurd r
more_behind fs o (Comma ∷ b) code r = absurd r
more_behind fs o (Question ∷ b) code r = absurd r
more_behind fs o (Star ∷ b) code r = absurd r
more_behind fs o (Plus ∷ b) code r = absurd r

mutual
  model-read : (m : Model) (a b : List Token) → IsModel m a b → (p : Bool) (fs : List Level) (o code : List Op) → Behind fs (code_on m o) b code → Reads (Wanted p) first_level fs o a code
  model-read _ _ _ (one_sequence m a b s) p fs o code r = sequence-read m a b s p false fs o code (one_behind fs (code_on m o) b code r)
  model-read _ _ _ (more_sequences m n a b c h s) p fs o code r =
      model-read m a (Bar ∷ b) h p fs o code (sequence-read n b c s false true fs (code_on m o) code (more_behind fs (code_on n (code_on m o)) c code r))

  sequence-read : (m : Model) (a b : List Token) → IsSequence m a b → (p x : Bool) (fs : List Level) (o code : List Op) → Reads ItemDone (level x false) fs (code_on m o) b code → Reads (Wanted p) (level x false) fs o a code
  sequence-read _ _ _ (one_item m a b i) p x fs o code r = item-read m a b i p (level x false) fs o code r
  sequence-read _ _ _ (more_items m n a b c s i) p x fs o code r =
      sequence-read m a (Comma ∷ b) s p x fs o code (item-read n b c i false (level x true) fs (code_on m o) code (waiting x fs (code_on n (code_on m o)) c code r))

  item-read : (m : Model) (a b : List Token) → IsItem m a b → (p : Bool) (l : Level) (fs : List Level) (o code : List Op) → Reads ItemDone l fs (code_on m o) b code → Reads (Wanted p) l fs o a code
  item-read _ _ _ (plain m a b t) p l fs o code r = atom-read m a b t p l fs o code (plainly l fs (code_on m o) b code r)
  item-read _ _ _ (optional m a b t) p l fs o code r = atom-read m a (Question ∷ b) t p l fs o code r
  item-read _ _ _ (any m a b t) p l fs o code r = atom-read m a (Star ∷ b) t p l fs o code r
  item-read _ _ _ (some m a b t) p l fs o code r = atom-read m a (Plus ∷ b) t p l fs o code r

  atom-read : (m : Model) (a b : List Token) → IsAtom m a b → (p : Bool) (l : Level) (fs : List Level) (o code : List Op) → Reads AtomDone l fs (code_on m o) b code → Reads (Wanted p) l fs o a code
  atom-read _ _ _ (name w b) true l fs o code r = r
  atom-read _ _ _ (name w b) false l fs o code r = r
  atom-read _ _ _ (empty b) true l fs o code r = r
  atom-read _ _ _ (empty b) false l fs o code r = r
  atom-read _ _ _ (inside m a b h) true l fs o code r = model-read m a (Close ∷ b) h true (l ∷ fs) o code r
  atom-read _ _ _ (inside m a b h) false l fs o code r = model-read m a (Close ∷ b) h true (l ∷ fs) o code r

-- tokens that spell a model are read to its code
pub complete : (m : Model) (ts : List Token) → IsModel m ts [] → Reads (Wanted false) first_level [] [] ts (code_on m [])
complete m ts h = model-read m ts [] h false [] [] (code_on m []) refl
