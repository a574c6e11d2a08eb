-- The fields of a PDU: source node id, control bit vector, PN bytes and user data. Assumes nothing.
use Rattle.std.specs.Prelude.{ℕ, List}
use Rattle.layout.specs.declared.PduFields.{PduFields}

pub record Fields : Type 0 where
  pub sni : ℕ
  pub cbv : ℕ
  pub pn : List ℕ
  pub user : List ℕ

abbrev pub fields : ℕ → ℕ → List ℕ → List ℕ → Fields
fields s c pn user = record { sni = s; cbv = c; pn = pn; user = user }

-- the fields of the code, with the bytes that are lent
abbrev pub lent : PduFields → Fields
lent f = fields f.sni f.cbv f.pn.now f.user.now
