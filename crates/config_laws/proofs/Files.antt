-- What a whole file is.
use Rattle.std.proofs.Common.{◌≡◌, ◌≤◌, inl, inr, ℕ, zero, suc, true, nat_lt, List, [], ◌∷◌, length, take, Option, Some, None, Ok, IsUtf8, refl, subst, ◌∙◌, arith}
use Rattle.std.specs.Str.{is_utf8}
use Rattle.std.specs.Str.Lossy.{utf8_valid_len, valid_len_up_to}
use Rattle.std.proofs.lemmas.Bool.{cases_Bool, ltb-false}
use Rattle.std.proofs.lemmas.List.{take_all}
use Rattle.std.proofs.lemmas.Str.{IsUtf8-from_is_utf8, IsUtf8-nil, is_utf8-from_IsUtf8}
use Rattle.toml.specs.Data.{Members}
use Rattle.toml.specs.Parse.{parse_document}
use Rattle.ring_config.specs.Settings.{Settings, document_of, config_in, config_of}
use Rattle.ring_config.proofs.ConfigLaws.{config_is}
use Rattle.config_laws.specs.Document.{IsFileOf, FilesAreAccepted}
use Rattle.config_laws.proofs.Document.{configurations_accepted}

-- ---- UTF-8

valid_few : (bytes : List ℕ) (n : ℕ) → valid_len_up_to bytes n ≤ n
valid_few bytes zero = omega arith
valid_few bytes (suc n) =
    elim (cases_Bool (is_utf8 (take (suc n) bytes))) [
      | inl t ↦ rw t (omega arith)
      | inr f ↦ let le = valid_few bytes n in rw f (omega arith)
    ]

whole_valid : (bytes : List ℕ) (n : ℕ) → length bytes ≡ n → valid_len_up_to bytes n ≡ n → is_utf8 bytes ≡ true
whole_valid [] n len h = is_utf8-from_IsUtf8 [] IsUtf8-nil
whole_valid (b ∷ bytes) zero len h = absurd (omega arith)
whole_valid (b ∷ bytes) (suc n) len h =
    elim (cases_Bool (is_utf8 (take (suc n) (b ∷ bytes)))) [
      | inl t ↦ subst (λ (l : List ℕ). is_utf8 l ≡ true) (take_all (suc n) (b ∷ bytes) (omega arith)) t
      | inr f ↦ let le = valid_few (b ∷ bytes) n in let k : valid_len_up_to (b ∷ bytes) n ≡ suc n = rw f at h in absurd (omega arith)
    ]

valid_utf8 : (bytes : List ℕ) → length bytes ≤ utf8_valid_len bytes → IsUtf8 bytes
unfolding utf8_valid_len
valid_utf8 bytes le =
    let few = valid_few bytes (length bytes) in
    IsUtf8-from_is_utf8 bytes (whole_valid bytes (length bytes) refl (omega arith))

-- ---- files

-- the document of a file
record IsDocumentOf (bytes : List ℕ) (ms : Members) : Type 0 where
  utf8 : IsUtf8 bytes
  parsed : parse_document bytes ≡ Some ms

document_is : (bytes : List ℕ) (ms : Members) → document_of bytes ≡ Some ms → IsDocumentOf bytes ms
unfolding document_of
document_is bytes ms h =
    elim (cases_Bool (nat_lt (utf8_valid_len bytes) (length bytes))) [
      | inl t ↦ let k : None ≡ Some ms = rw t at h in absurd cc
      | inr f ↦ record { utf8 = valid_utf8 bytes (ltb-false (utf8_valid_len bytes) (length bytes) f); parsed = rw f at h }
    ]

file_in : (bytes : List ℕ) (d : Option Members) (c : Settings) → document_of bytes ≡ d → config_in d ≡ Ok c → IsFileOf bytes c
file_in bytes None c e h = absurd cc
file_in bytes (Some ms) c e h =
    let d = document_is bytes ms e in
    record { utf8 = d.utf8; document = ms; parsed = d.parsed; says = (configurations_accepted ms c).0 h }

file_is : (bytes : List ℕ) (c : Settings) → config_of bytes ≡ Ok c → IsFileOf bytes c
unfolding config_of
file_is bytes c h = file_in bytes (document_of bytes) c refl h

file_gives : (bytes : List ℕ) (c : Settings) → IsFileOf bytes c → config_of bytes ≡ Ok c
file_gives bytes c h = config_is bytes h.document h.utf8 h.parsed ∙ (configurations_accepted h.document c).1 h.says

pub files_accepted : FilesAreAccepted
files_accepted bytes c = (file_is bytes c, file_gives bytes c)
