-- The word of a command, and what follows the space after it.
use Rattle.std.specs.Prelude.{◌≡◌, ◌<◌, ℕ, nat_lt, List, ◌∷◌, ◌++◌, length, take, true, cond, Option, Some, None, MatchOption, codes, refl}
use Rattle.std.proofs.Common.{sym, ap, ◌∙◌, subst, arith}
use Rattle.std.specs.List.{position}
use Rattle.std.proofs.lemmas.Bool.Decides.{nat_tests}
use Rattle.std.proofs.lemmas.List.{take_at}
use Rattle.std.proofs.lemmas.Option.{same_Some}
use Rattle.store_core.specs.Acts.{Act, AsksFewRecords, Repair, RepairWide, Generate}
use Rattle.store_core.specs.CommandOf.{act_of}
use Rattle.store_core.specs.declared.command.Command.{Command}
use Rattle.store_shell.specs.Forms.{Asks, Gives}
use Rattle.store_shell.specs.Verbs.{lone_word, verb_of, verb_word, is_blank}
use Rattle.store_shell.specs.declared.verb.Verb.{Verb}
use Rattle.store_shell.specs.declared.verb.Verb.TheVariants as verb
use Rattle.store_shell.proofs.Arguments.{from_behind, spaced}
use Rattle.store_shell.proofs.Verbs.{verb-one}

position_at : (n : ℕ) (words : List ℕ) → n < length words → cond (nat_lt n (length words)) (Some n) None ≡ Some n
position_at n words lt =
    let e : nat_lt n (length words) ≡ true = grind (arith, nat_tests) in
    rw e refl

-- where the first space is
verb_at : (v : Verb) (rest : List ℕ) → position is_blank (verb_word v ++ 32 ∷ rest) ≡ Some (length (verb_word v))
verb_at verb.Load rest = position_at 4 (codes "load " ++ rest) (omega arith)
verb_at verb.LoadGrammar rest = position_at 12 (codes "load-grammar " ++ rest) (omega arith)
verb_at verb.Save rest = position_at 4 (codes "save " ++ rest) (omega arith)
verb_at verb.SaveGrammar rest = position_at 12 (codes "save-grammar " ++ rest) (omega arith)
verb_at verb.Show rest = position_at 4 (codes "show " ++ rest) (omega arith)
verb_at verb.Query rest = position_at 5 (codes "query " ++ rest) (omega arith)
verb_at verb.ShowAll rest = position_at 8 (codes "show-all " ++ rest) (omega arith)
verb_at verb.Count rest = position_at 5 (codes "count " ++ rest) (omega arith)
verb_at verb.Rename rest = position_at 6 (codes "rename " ++ rest) (omega arith)
verb_at verb.Insert rest = position_at 6 (codes "insert " ++ rest) (omega arith)
verb_at verb.Append rest = position_at 6 (codes "append " ++ rest) (omega arith)
verb_at verb.Delete rest = position_at 6 (codes "delete " ++ rest) (omega arith)
verb_at verb.Value rest = position_at 5 (codes "value " ++ rest) (omega arith)
verb_at verb.Attr rest = position_at 4 (codes "attr " ++ rest) (omega arith)
verb_at verb.Copy rest = position_at 4 (codes "copy " ++ rest) (omega arith)
verb_at verb.RenameAll rest = position_at 10 (codes "rename-all " ++ rest) (omega arith)
verb_at verb.DeleteAll rest = position_at 10 (codes "delete-all " ++ rest) (omega arith)
verb_at verb.Check rest = position_at 5 (codes "check " ++ rest) (omega arith)
verb_at verb.Generate rest = position_at 8 (codes "generate " ++ rest) (omega arith)

-- a word and a space are cut there
word_at : (v : Verb) (rest words : List ℕ) (at : ℕ) → position is_blank words ≡ Some at → words ≡ verb_word v ++ 32 ∷ rest → take at words ≡ verb_word v
word_at v rest words at e is =
    let end : at ≡ length (verb_word v) = same_Some at (length (verb_word v)) (sym e ∙ (ap (position is_blank) is ∙ verb_at v rest)) in
    rw (is, end) (take_at (verb_word v) (32 ∷ rest) (length (verb_word v)) refl)

-- words that begin with a verb go on with what stands behind the space
pub words_at : (v : Verb) (words : List ℕ) (at : ℕ) → position is_blank words ≡ Some at → take at words ≡ verb_word v → words ≡ verb_word v ++ 32 ∷ from_behind words at
words_at v words at found is = spaced words at found ∙ ap (λ z. z ++ 32 ∷ from_behind words at) is

-- what words ask for by a verb, or by none
abbrev pub AsksBy : List ℕ → List ℕ → (List ℕ → Type 0) → Option Verb → Type 0
AsksBy words lone P verb = MatchOption verb (words ≡ lone) (λ v. (arguments : List ℕ) × (words ≡ verb_word v ++ 32 ∷ arguments) × P arguments)

-- a word alone has no space
lone-at : (a : Act) → position is_blank (lone_word a) ≡ None
lone-at Repair = refl
lone-at RepairWide = refl
lone-at a = refl

none-by : (words : List ℕ) (at : ℕ) (a : Act) (P : List ℕ → Type 0) (verb : Option Verb) → position is_blank words ≡ Some at → ((v : Verb) → take at words ≡ verb_word v → ⊥) → AsksBy words (lone_word a) P verb → ⊥
none-by words at a P None e none h = let unspaced : None ≡ Some at = sym (lone-at a) ∙ (sym (ap (position is_blank) h) ∙ e) in cc
none-by words at a P (Some v) e none (arguments, is, p) = none v (word_at v arguments words at e is)

-- a command's word is one of the verbs
pub no_verb : (words : List ℕ) (at : ℕ) (act : Act) → position is_blank words ≡ Some at → ((v : Verb) → take at words ≡ verb_word v → ⊥) → Asks words act → ⊥
no_verb words at act e none h = none-by words at act (λ arguments. Gives arguments act) (verb_of act) e none h

pub lone-unspaced : (a : Act) (v : Verb) (words rest : List ℕ) → words ≡ verb_word v ++ 32 ∷ rest → words ≡ lone_word a → ⊥
lone-unspaced a v words rest e h =
    let unspaced : None ≡ Some (length (verb_word v)) = sym (lone-at a) ∙ (sym (ap (position is_blank) h) ∙ (ap (position is_blank) e ∙ verb_at v rest)) in
    cc

none-given : (v : Verb) (words arguments : List ℕ) (act : Act) (verb : Option Verb) → words ≡ verb_word v ++ 32 ∷ arguments → (verb ≡ Some v → Gives arguments act → ⊥) → AsksBy words (lone_word act) (λ given. Gives given act) verb → ⊥
none-given v words arguments act None is none h = lone-unspaced act v words arguments is h
none-given v words arguments act (Some w) is none (given, is2, gives) =
    let same = verb-one w v words given arguments is2 is in
    none (ap (λ z. Some z) same.0) (subst (λ z. Gives z act) same.1 gives)

-- words ask for what stands behind their verb, and for nothing else
asks_given : (v : Verb) (words arguments : List ℕ) (act : Act) → words ≡ verb_word v ++ 32 ∷ arguments → verb_of act ≡ Some v → Gives arguments act → Asks words act
asks_given v words arguments act is of gives = subst (λ verb. AsksBy words (lone_word act) (λ given. Gives given act) verb) (sym of) (arguments, is, gives)

asks_nothing : (v : Verb) (words arguments : List ℕ) → words ≡ verb_word v ++ 32 ∷ arguments → ((act : Act) → verb_of act ≡ Some v → Gives arguments act → ⊥) → (act : Act) → Asks words act → ⊥
asks_nothing v words arguments is none act h = none-given v words arguments act (verb_of act) is (none act) h

pub asks-by-given : (v : Verb) (words arguments : List ℕ) → words ≡ verb_word v ++ 32 ∷ arguments → (read : Option Command)
    → MatchOption read ((act : Act) → verb_of act ≡ Some v → Gives arguments act → ⊥) (λ command. (verb_of (act_of command) ≡ Some v) × Gives arguments (act_of command))
    → MatchOption read ((act : Act) → Asks words act → ⊥) (λ command. Asks words (act_of command))
asks-by-given v words arguments is None none = asks_nothing v words arguments is none
asks-by-given v words arguments is (Some command) (of, gives) = asks_given v words arguments (act_of command) is of gives

-- what words ask for has few records
pub asks_few : (words : List ℕ) (act : Act) → Asks words act → AsksFewRecords act
asks_few words (Generate records) (arguments, is, gives) = (gives.0, gives.1)
asks_few words act h = tt
