-- The settings by which a script is served.
use Rattle.std.proofs.Common.{ℕ, List}
use Rattle.store_words.specs.Words.{IsWords}
use Rattle.store_words.specs.declared.words.Settings.{Settings}
use Rattle.store_shell.specs.Serving.{AreSettings}
use Rattle.store_shell.specs.declared.status.Status.{Status}
use Rattle.store_shell.specs.declared.status.Status.TheVariants as status

-- those that the words give are the settings at every status
pub given_settings : (words : List (List ℕ)) (s : Status) (settings : Settings) → IsWords words settings.rank settings.repair → AreSettings words s settings
given_settings words status.Words settings given = tt
given_settings words status.Memory settings given = tt
given_settings words status.Done settings given = given
given_settings words status.ReadFault settings given = given
given_settings words status.WriteFault settings given = given
given_settings words status.LongScript settings given = given
