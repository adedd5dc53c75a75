-- The limits of a reply that may be encoded, as tests.
use Rattle.std.specs.Prelude.{Bool, true, ◌&&◌, nat_le, List, length}
use Rattle.std.specs.List.{list_all}
use Rattle.vl_values.specs.declared.reply.Reply.{Reply}
use Rattle.vl_values.specs.declared.reply.Reply.TheVariants.{Ok, Rows, Err}
use Rattle.vl_values.specs.declared.reply_column.ReplyColumn.{ReplyColumn}
use Rattle.vl_values.specs.declared.value.Value.{Value}
use Rattle.vl_values.specs.Value.{text_of_value}

abbrev pub has_short_texts : ReplyColumn → Bool
has_short_texts column = nat_le (length column.schema) 64 && nat_le (length column.table) 64 && nat_le (length column.name) 64

abbrev pub is_short_value : Value → Bool
is_short_value value = nat_le (length (text_of_value value)) 16383

abbrev pub is_short_row : List Value → Bool
is_short_row row = nat_le (length row) 1000 && list_all is_short_value row

abbrev pub is_encodable : Reply → Bool
is_encodable (Ok affected found warnings tx auto) = true
is_encodable (Rows columns rows tx auto) = nat_le (length columns) 1000 && list_all has_short_texts columns && list_all is_short_row rows
is_encodable (Err code why tx) = true
