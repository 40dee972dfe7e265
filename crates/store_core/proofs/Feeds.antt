-- A file that is fed to a reader of XML in pieces.
use Rattle.std.specs.Prelude.{◌≡◌, ◌≤◌, ◌+◌, ℕ, List, ◌++◌, length, take, Option, Some, None, Result, Ok, OnOk}
use Rattle.std.proofs.Common.{refl, sym, ap, ◌∙◌, subst, length-append, arith}
use Rattle.std.proofs.lemmas.List.{take-take, take-append-le}
use Rattle.tree_outside.specs.Files.{Told}
use Rattle.tree_outside.specs.Shelf.{TakesFile}
use Rattle.xml_nodes.specs.Machine.{Event}
use Rattle.xml_nodes.specs.StateOf.{state_of}
use Rattle.xml_nodes.specs.Taking.{Built, IsReady}
use Rattle.xml_profile.specs.Reading.{IsFed, IsFedOn, IsBad, count_of, answer_of}
use Rattle.xml_profile.specs.declared.error.XmlError.{XmlError}
use Rattle.xml_profile.specs.declared.error.XmlError.TheVariants as xml
use Rattle.xml_profile.specs.declared.reader.Reader.{Reader}
use Rattle.store_core.specs.Errors.{IsNoDocument, RefusesDocument, SaysOfDocument}
use Rattle.store_core.specs.Feeding.{HasFed, HasLeft, FeedsFile}
use Rattle.store_core.specs.Stopping.{StopsDocument, StopsReading}
use Rattle.store_core.specs.declared.answer.Refusal.{Refusal}
use Rattle.store_core.specs.declared.answer.Refusal.TheVariants as no
use Rattle.store_core.proofs.ReadSteps.{TakesFile-append}

-- So many bytes were taken from the open file, and fed.
pub record IsFeeding (opened now : Option Told) (reader : Reader) (built : Built) (fed : ℕ) : Type 0 where
  pub bytes : List ℕ
  pub taken : TakesFile opened now bytes
  pub has : HasFed reader built bytes
  pub counts : fed ≡ length bytes

-- an answer without an error says that the reader has not failed
unfailed : (failed : Option XmlError) (result : Result (Unit {0}) XmlError) → result ≡ answer_of failed → failed ≡ None → result ≡ Ok tt
unfailed failed result e none = e ∙ ap answer_of none

-- one piece more
pub fed_on :
    (old new : Reader) (before after : Built) (bytes piece : List ℕ) (result : Result (Unit {0}) XmlError) → HasFed old before bytes
    → ((calls : List Event) (fed : List ℕ) → IsFed old calls fed → IsFedOn new before.log after.log calls (fed ++ piece))
    → OnOk result (IsReady (state_of new.machine) after) → OnOk result (count_of new ≡ count_of old + length piece) → result ≡ answer_of new.failed
    → ((e : XmlError) → old.failed ≡ Some e → new.failed ≡ Some e)
    → HasFed new after (bytes ++ piece)
fed_on old new before after bytes piece result has feeds ready count answer again =
    let on = feeds has.calls bytes has.fed in
    let was : new.failed ≡ None → old.failed ≡ None = λ none. still old.failed none again in record {
      calls = has.calls ++ on.more;
      fed = on.fed;
      logged = λ none. on.logged none ∙ ap (λ xs. xs ++ on.more) (has.logged (was none));
      ready = λ none. let P : Result (Unit {0}) XmlError → Type 0 = λ r. OnOk r (IsReady (state_of new.machine) after) in subst P (unfailed new.failed result answer none) ready;
      count = λ none. let P : Result (Unit {0}) XmlError → Type 0 = λ r. OnOk r (count_of new ≡ count_of old + length piece) in
          let more : count_of new ≡ count_of old + length piece = subst P (unfailed new.failed result answer none) count in
          omega (arith, more, has.count (was none), length-append bytes piece);
    }
  where
    still : (failed : Option XmlError) → new.failed ≡ None → ((e : XmlError) → failed ≡ Some e → new.failed ≡ Some e) → failed ≡ None
    still None none again = refl
    still (Some e) none again = let both : Some e ≡ None = sym (again e refl) ∙ none in cc

pub feeding_goes :
    (opened mid now : Option Told) (old new : Reader) (before after : Built) (piece : List ℕ) (fed count : ℕ) → (w : IsFeeding opened mid old before fed) → TakesFile mid now piece
    → HasFed new after (w.bytes ++ piece) → count ≡ length piece → IsFeeding opened now new after (fed + count)
feeding_goes opened mid now old new before after piece fed count w takes has counts = record {
  bytes = w.bytes ++ piece;
  taken = TakesFile-append opened mid now w.bytes piece w.taken takes;
  has = has;
  counts = omega (arith, w.counts, counts, length-append w.bytes piece);
}

-- what a read put at the front of its buffer
pub read_front : (count len : ℕ) (buffer behind : List ℕ) → count ≤ length buffer → count ≤ len → take count (take len (buffer ++ behind)) ≡ take count buffer
read_front count len buffer behind within room = take-take count len (buffer ++ behind) room ∙ take-append-le count buffer behind within

-- why the bytes that are left are no document stops the reading of one
no_document-stops : (refusal : Refusal) (opened : Option Told) (bytes : List ℕ) (before now : ℕ) → HasLeft opened bytes → IsNoDocument refusal bytes → StopsDocument refusal opened before now
no_document-stops (no.BadXml at) opened bytes before now left why = (bytes, left, why)
no_document-stops no.Memory opened bytes before now left why = tt
no_document-stops refusal opened bytes before now left why = absurd why

document_says : (error : XmlError) (bytes : List ℕ) → ((at : ℕ) → error ≡ xml.Bad at → IsBad bytes at) → SaysOfDocument error bytes
document_says (xml.Bad at) bytes bad = bad at refl
document_says xml.Memory bytes bad = tt

-- bytes that spell no document stop the reading
pub bad_stops :
    (error : XmlError) (refusal : Refusal) (opened : Option Told) (reader : Reader) (built : Built) (before now : ℕ) → FeedsFile opened reader built → RefusesDocument error refusal
    → ((at : ℕ) → error ≡ xml.Bad at → (calls : List Event) (fed : List ℕ) → IsFed reader calls fed → IsBad fed at) → StopsDocument refusal opened before now
bad_stops error refusal opened reader built before now feeds refuses bad =
    no_document-stops refusal opened feeds.bytes before now feeds.left (refuses feeds.bytes (document_says error feeds.bytes (λ at same. bad at same feeds.fed.calls feeds.bytes feeds.fed.fed)))

-- what stops the reading of a file stops that of a document
pub stops-document : (refusal : Refusal) (opened : Option Told) (before now : ℕ) → StopsReading refusal opened before now → StopsDocument refusal opened before now
stops-document (no.BadXml at) opened before now stops = absurd stops
stops-document refusal opened before now stops = stops
