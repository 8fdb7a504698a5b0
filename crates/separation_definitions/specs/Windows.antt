-- The part of a page that a printer prints, and the pages that it takes.
use Rattle.std.specs.Prelude.{◌+◌, ◌-◌, ◌*◌, ◌/◌}
use Rattle.printer_definitions.specs.Printer.{Printer}
use Rattle.separation_definitions.specs.declared.window.Window.{Window}
use Rattle.pwg_definitions.specs.declared.pages.PageForm.{PageForm}
use Rattle.pwg_definitions.specs.declared.pages.Wanted.{Wanted}
use Rattle.base_definitions.specs.Limits.{most_columns, most_rows}

-- the page without its four margins
abbrev pub window_of : PageForm → Printer → Window
window_of form p = record {
  left = p.left;
  top = p.top;
  width = form.width - (p.left + p.right);
  height = form.height - (p.top + p.bottom);
}

-- The pages that a printer takes: at least one pixel inside its margins, and no more columns and inches than a page.
abbrev pub wanted_by : Printer → Wanted
wanted_by p = record {
  hdpi = p.hdpi;
  vdpi = p.vdpi;
  least_width = p.left + p.right + 1;
  most_width = most_columns;
  least_height = p.top + p.bottom + 1;
  most_height = most_rows * p.vdpi / 720;
}
