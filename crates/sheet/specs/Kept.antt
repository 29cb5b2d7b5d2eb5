-- The account that a sheet keeps.
use Rattle.sheet.specs.Account.{Account}
use Rattle.sheet.specs.Rows.{holes_of}
use Rattle.sheet.specs.declared.sheet.Sheet.{Sheet}
use Rattle.sheet.specs.declared.sheet.open.Open.{Open}
use Rattle.sheet.specs.declared.sheet.closed.Closed.{Closed}

abbrev pub account : Sheet → Account
account s = record { bar = s.bar; bolt = s.bolt; holes = holes_of s.row; loads = s.loads }

abbrev pub open_account : Open → Account
open_account o = account o.sheet

abbrev pub closed_account : Closed → Account
closed_account c = account c.sheet
