-- A document that was read.
use Rattle.std.proofs.Common.{◌≡◌, ◌≤◌, ℕ, List, length, Some, refl, arith}
use Rattle.std.specs.Str.{IsUtf8}
use Rattle.std.specs.Str.Lossy.{utf8_valid_len}
use Rattle.std.proofs.lemmas.Bool.{le-ltb}
use Rattle.std.proofs.lemmas.Str.{utf8_valid_len-IsUtf8}
use Rattle.toml.specs.Data.{Members}
use Rattle.toml.specs.Parse.{parse_document}
use Rattle.ring_config.specs.Settings.{document_of}
use Rattle.ring_config.specs.Settings.{config_of, config_at}

pub config_is : (bytes : List ℕ) (t : Members) → IsUtf8 bytes → parse_document bytes ≡ Some t → config_of bytes ≡ config_at t
unfolding config_of document_of
config_is bytes t u e =
    let le : length bytes ≤ utf8_valid_len bytes = rw (utf8_valid_len-IsUtf8 bytes u) (omega arith) in
    rw (le-ltb (utf8_valid_len bytes) (length bytes) le, e) refl
