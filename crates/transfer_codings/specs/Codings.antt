-- The bytes of a body under a Content-Transfer-Encoding (RFC 2045 §6).
use Rattle.std.specs.Prelude.{ℕ, List}
use Rattle.transfer_codings.specs.Base64.{base64_bytes}
use Rattle.transfer_codings.specs.Quoted.{quoted_bytes}
use Rattle.transfer_codings.specs.declared.coding.Coding.{Coding}
use Rattle.transfer_codings.specs.declared.coding.Coding.TheVariants.{Plain, Base64, Quoted}

-- bytes, decoded
abbrev pub decoded : Coding → List ℕ → List ℕ
decoded Plain bytes = bytes
decoded Base64 bytes = base64_bytes bytes
decoded Quoted bytes = quoted_bytes bytes
