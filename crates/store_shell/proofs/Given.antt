-- What gives a command with a verb nothing gives no command with it.
use Rattle.std.specs.Prelude.{◌≡◌, ◌≢◌, ℕ, List, [], Some}
use Rattle.store_core.specs.Acts.{Act, Value, Attr, RenameAll}
use Rattle.store_shell.specs.Arguments.{IsNamed, IsNumbered}
use Rattle.store_shell.specs.Forms.{Gives}
use Rattle.store_shell.specs.Verbs.{verb_of}
use Rattle.store_shell.specs.declared.verb.Verb.TheVariants as verb

pub no-value : (arguments : List ℕ) → ((n : ℕ) (bytes : List ℕ) → IsNumbered arguments n bytes → ⊥) → (act : Act) → verb_of act ≡ Some verb.Value → Gives arguments act → ⊥
no-value arguments none (Value n bytes) e h = none n bytes h
no-value arguments none act e h = absurd cc

pub no-attribute :
    (arguments : List ℕ) → ((n : ℕ) (name bytes rest : List ℕ) → IsNumbered arguments n rest → IsNamed rest name bytes → ⊥)
    → (act : Act) → verb_of act ≡ Some verb.Attr → Gives arguments act → ⊥
no-attribute arguments none (Attr n name bytes) e h = none n name bytes h.0 h.1 h.2
no-attribute arguments none act e h = absurd cc

pub no-renaming : (arguments : List ℕ) → ((name bytes : List ℕ) → bytes ≢ [] → IsNamed arguments name bytes → ⊥) → (act : Act) → verb_of act ≡ Some verb.RenameAll → Gives arguments act → ⊥
no-renaming arguments none (RenameAll name query) e h = none name query h.0 h.1
no-renaming arguments none act e h = absurd cc
