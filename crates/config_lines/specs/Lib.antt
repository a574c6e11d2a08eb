pub mod ConfigLines
