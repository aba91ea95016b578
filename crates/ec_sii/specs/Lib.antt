pub mod Registers
pub mod Eeprom
pub mod Served
pub mod Crc
pub mod Image
pub mod Reading
pub mod Made
