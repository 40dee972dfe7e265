-- A line has one form alone.
use Rattle.std.specs.Prelude.{◌≡◌, ◌≤◌, ◌<◌, ◌-◌, ℕ, List, [], ◌∷◌, length, take, Bool, true, false, Option, Some, None, if◌then◌else◌, codes, nat_eq, nat_lt, refl}
use Rattle.std.proofs.Common.{sym, ap, ◌∙◌, subst, arith}
use Rattle.std.specs.List.{ends_with}
use Rattle.std.proofs.lemmas.Fmt.{decimal_injective}
use Rattle.std.proofs.lemmas.List.{length-take}
use Rattle.store_core.specs.Acts.{Act, Load, LoadGrammar, Save, SaveGrammar, Show, Query, ShowAll, Count, Rename, Insert, Append, Delete, Value, Attr, Copy, RenameAll, DeleteAll, Check, Repair, RepairWide, Generate}
use Rattle.store_shell.specs.Forms.{Form, Empty, Long, Bad, Quit, Command, IsForm, Asks, Gives, without_return}
use Rattle.store_shell.specs.Lines.{longest}
use Rattle.store_shell.specs.Arguments.{IsNamed}
use Rattle.store_shell.specs.Verbs.{lone_word, verb_of}
use Rattle.store_shell.specs.declared.verb.Verb.{Verb}
use Rattle.store_shell.proofs.Arguments.{named-one, numbered-one}
use Rattle.store_shell.proofs.Verbs.{place, place_of, place-low, place-told, verb-one}
use Rattle.store_shell.proofs.Words.{AsksBy, lone-unspaced}

short_by : (b : Bool) (line words : List ℕ) → (if b then take (length line - 1) line else line) ≡ words → length words < longest → length line ≤ longest
short_by true line words e lt = omega (arith, ap length e, length-take {A = ℕ})
short_by false line words e lt = omega (arith, ap length e)

-- a line of few words is short
short : (line words : List ℕ) → without_return line ≡ words → length words < longest → length line ≤ longest
short line words e lt = short_by (ends_with nat_eq line (13 ∷ [])) line words e lt

-- no words are short, and so is quit
empty_short : (line : List ℕ) → without_return line ≡ [] → length line ≤ longest
empty_short line e = short line [] e (omega arith)

quit_short : (line : List ℕ) → without_return line ≡ codes "quit" → length line ≤ longest
quit_short line e = short line (codes "quit") e (omega arith)

both : (make : ℕ → List ℕ → Act) (m n : ℕ) (x y : List ℕ) → (m ≡ n) × (x ≡ y) → make m x ≡ make n y
both make m n x y same = ap (λ z. make z x) same.0 ∙ ap (make n) same.1

-- what stands behind a verb gives it one command
gives-one : (given : List ℕ) (a b : Act) → verb_of a ≡ verb_of b → Gives given a → Gives given b → a ≡ b
gives-one given (Load x) (Load y) e h k = ap Load (sym h.1 ∙ k.1)
gives-one given (Load x) b e h k = absurd cc
gives-one given (LoadGrammar x) (LoadGrammar y) e h k = ap LoadGrammar (sym h.1 ∙ k.1)
gives-one given (LoadGrammar x) b e h k = absurd cc
gives-one given (Save x) (Save y) e h k = ap Save (sym h.1 ∙ k.1)
gives-one given (Save x) b e h k = absurd cc
gives-one given (SaveGrammar x) (SaveGrammar y) e h k = ap SaveGrammar (sym h.1 ∙ k.1)
gives-one given (SaveGrammar x) b e h k = absurd cc
gives-one given (Show m) (Show n) e h k = ap Show (decimal_injective m n h.0 k.0 (sym h.1 ∙ k.1))
gives-one given (Show m) b e h k = absurd cc
gives-one given (Query x) (Query y) e h k = ap Query (sym h.1 ∙ k.1)
gives-one given (Query x) b e h k = absurd cc
gives-one given (ShowAll x) (ShowAll y) e h k = ap ShowAll (sym h.1 ∙ k.1)
gives-one given (ShowAll x) b e h k = absurd cc
gives-one given (Count x) (Count y) e h k = ap Count (sym h.1 ∙ k.1)
gives-one given (Count x) b e h k = absurd cc
gives-one given (Rename m x) (Rename n y) e h k = both Rename m n x y (numbered-one given m n x y h.1 k.1)
gives-one given (Rename m x) b e h k = absurd cc
gives-one given (Insert m x) (Insert n y) e h k = both Insert m n x y (numbered-one given m n x y h.1 k.1)
gives-one given (Append m x) (Append n y) e h k = both Append m n x y (numbered-one given m n x y h.1 k.1)
gives-one given (Insert m x) b e h k = absurd cc
gives-one given (Append m x) b e h k = absurd cc
gives-one given (Delete m) (Delete n) e h k = ap Delete (decimal_injective m n h.0 k.0 (sym h.1 ∙ k.1))
gives-one given (Delete m) b e h k = absurd cc
gives-one given (Value m x) (Value n y) e h k = both Value m n x y (numbered-one given m n x y h k)
gives-one given (Value m x) b e h k = absurd cc
gives-one given (Attr m v x) (Attr n w y) e h k =
    let r = numbered-one given m n h.0 k.0 h.1 k.1 in
    let s = named-one k.0 v w x y (subst (λ z. IsNamed z v x) r.1 h.2) k.2 in
    rw (r.0, s.0, s.1) refl
gives-one given (Attr m v x) b e h k = absurd cc
gives-one given (Copy m) (Copy n) e h k = ap Copy (decimal_injective m n h.0 k.0 (sym h.1 ∙ k.1))
gives-one given (Copy m) b e h k = absurd cc
gives-one given (RenameAll v x) (RenameAll w y) e h k = let s = named-one given v w x y h.1 k.1 in rw (s.0, s.1) refl
gives-one given (RenameAll v x) b e h k = absurd cc
gives-one given (DeleteAll x) (DeleteAll y) e h k = ap DeleteAll (sym h.1 ∙ k.1)
gives-one given (DeleteAll x) b e h k = absurd cc
gives-one given (Check x) (Check y) e h k = ap Check (sym h.1 ∙ k.1)
gives-one given (Check x) b e h k = absurd cc
gives-one given (Generate m) (Generate n) e h k = ap Generate (decimal_injective m n (omega (arith, h.1)) (omega (arith, k.1)) (sym h.2 ∙ k.2))
gives-one given (Generate m) b e h k = absurd cc
gives-one given Repair b e h k = absurd h
gives-one given RepairWide b e h k = absurd h

lone-one : (a b : Act) → verb_of a ≡ None → verb_of b ≡ None → lone_word a ≡ lone_word b → a ≡ b
lone-one Repair Repair e d same = refl
lone-one RepairWide RepairWide e d same = refl
lone-one Repair RepairWide e d same = absurd cc
lone-one RepairWide Repair e d same = absurd cc
lone-one Repair b e d same = absurd cc
lone-one RepairWide b e d same = absurd cc
lone-one a b e d same = absurd cc

-- words ask for one command
asks-one : (words : List ℕ) (a b : Act) → Asks words a → Asks words b → a ≡ b
asks-one words a b h k = by (verb_of a) (verb_of b) refl refl h k
  where
    by : (v w : Option Verb) → verb_of a ≡ v → verb_of b ≡ w → AsksBy words (lone_word a) (λ given. Gives given a) v → AsksBy words (lone_word b) (λ given. Gives given b) w → a ≡ b
    by None None e d h k = lone-one a b e d (sym h ∙ k)
    by None (Some w) e d h (rest, is, gives) = absurd (lone-unspaced a w words rest is h)
    by (Some v) None e d (rest, is, gives) k = absurd (lone-unspaced b v words rest is k)
    by (Some v) (Some w) e d (xs, is, gives) (ys, is2, gives2) =
        let same = verb-one v w words xs ys is is2 in
        gives-one xs a b (e ∙ (ap (λ z. Some z) same.0 ∙ sym d)) gives (subst (λ z. Gives z b) (sym same.1) gives2)

-- a command's word is something, and not `quit`
lone-worded : (a : Act) → verb_of a ≡ None → (lone_word a ≡ [] → ⊥) × (lone_word a ≡ codes "quit" → ⊥)
lone-worded Repair none = (λ e. absurd cc, λ e. absurd cc)
lone-worded RepairWide none = (λ e. absurd cc, λ e. absurd cc)
lone-worded a none = absurd cc

-- words whose first is no verb, and that are no word of a command without arguments, ask for nothing
asks_none : (words : List ℕ) (a : Act) → Asks words a → (verb_of a ≡ None → words ≡ lone_word a → ⊥) → place_of words ≡ 19 → ⊥
asks_none words a h other e = by (verb_of a) refl h
  where
    by : (v : Option Verb) → verb_of a ≡ v → AsksBy words (lone_word a) (λ given. Gives given a) v → ⊥
    by None none h = other none h
    by (Some v) some (rest, is, gives) =
        let at : place v ≡ 19 = sym (place-told v words rest is) ∙ e in
        let wrong : false ≡ true = ap (λ p. nat_lt p 19) (sym at) ∙ place-low v in
        absurd (cc)

asks_some : (words : List ℕ) (a : Act) → Asks words a → words ≡ [] → ⊥
asks_some words a h e = asks_none words a h (λ none is. (lone-worded a none).0 (sym is ∙ e)) (ap place_of e)

asks_no_quit : (words : List ℕ) (a : Act) → Asks words a → words ≡ codes "quit" → ⊥
asks_no_quit words a h e = asks_none words a h (λ none is. (lone-worded a none).1 (sym is ∙ e)) (ap place_of e)

quit_some : (words : List ℕ) → words ≡ codes "quit" → words ≡ [] → ⊥
quit_some words h e = let f : codes "quit" ≡ [] = sym h ∙ e in absurd (cc)

pub form-one : (line : List ℕ) (f g : Form) → IsForm line f → IsForm line g → f ≡ g
form-one line Empty Empty h k = refl
form-one line Empty Long h k = absurd (omega (arith, empty_short line h))
form-one line Empty Bad h k = absurd (k.1 h)
form-one line Empty Quit h k = absurd (quit_some (without_return line) k h)
form-one line Empty (Command a) h k = absurd (asks_some (without_return line) a k.1 h)
form-one line Long Empty h k = absurd (omega (arith, empty_short line k))
form-one line Long Long h k = refl
form-one line Long Bad h k = absurd (omega arith)
form-one line Long Quit h k = absurd (omega (arith, quit_short line k))
form-one line Long (Command a) h k = absurd (omega arith)
form-one line Bad Empty h k = absurd (h.1 k)
form-one line Bad Long h k = absurd (omega arith)
form-one line Bad Bad h k = refl
form-one line Bad Quit h k = absurd (h.2 k)
form-one line Bad (Command a) h k = absurd (h.3 a k.1)
form-one line Quit Empty h k = absurd (quit_some (without_return line) h k)
form-one line Quit Long h k = absurd (omega (arith, quit_short line h))
form-one line Quit Bad h k = absurd (k.2 h)
form-one line Quit Quit h k = refl
form-one line Quit (Command a) h k = absurd (asks_no_quit (without_return line) a k.1 h)
form-one line (Command a) Empty h k = absurd (asks_some (without_return line) a h.1 k)
form-one line (Command a) Long h k = absurd (omega arith)
form-one line (Command a) Bad h k = absurd (k.3 a h.1)
form-one line (Command a) Quit h k = absurd (asks_no_quit (without_return line) a h.1 k)
form-one line (Command a) (Command b) h k = ap Command (asks-one (without_return line) a b h.1 k.1)

-- a line of another form isn't quit
pub no_quit : (line : List ℕ) (form : Form) → IsForm line form → (form ≡ Quit → ⊥) → IsForm line Quit → ⊥
no_quit line form h ne k = ne (form-one line form Quit h k)
